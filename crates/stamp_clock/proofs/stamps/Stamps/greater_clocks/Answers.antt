use Rattle.std.proofs.Common.{◌≡◌, max, inl, inr, ap₂, ◌∙◌, rules}
use Rattle.stamp_clock.proofs.JoinLemmas.{greater-next, rest-start, rest-first, rest-next, rest-clock}
use Rattle.stamp_clock.proofs.stamps.Stamps.greater_clocks.Goals as goal

pub loop-key-init : goal.loop-key-init
loop-key-init c = record {
  pairs = rest-start c.into_iter-key-iterator.result c.args.keys c.args.self.now c.iter-pairs.result c.into_iter-key-iterator.ensures.into_iter_gives c.len.ensures.keys c.iter-pairs.ensures.stamps.rising
      (λ q h. c.requires q (inl h)) c.iter-pairs.ensures.pairs;
  others = rest-start c.into_iter-key-iterator.result c.args.keys c.args.other.now c.iter-other_pairs.result c.into_iter-key-iterator.ensures.into_iter_gives c.len.ensures.keys c.iter-other_pairs.ensures.stamps.rising
      (λ q h. c.requires q (inr h)) c.iter-other_pairs.ensures.pairs;
  clocks = c.in_ok-reserve.ensures.items ∙ c.clear.ensures.items;
}

pub take_clock-here-requires : goal.take_clock-here-requires
take_clock-here-requires c = rest-first c.in-Some.key c.next.new.self c.loop-key.key-iterator c.args.self.now c.loop-key.pairs c.in-Some.ensures.steps c.loop-key.invariant.pairs

pub take_clock-there-requires : goal.take_clock-there-requires
take_clock-there-requires c = rest-first c.in-Some.key c.next.new.self c.loop-key.key-iterator c.args.other.now c.loop-key.other_pairs c.in-Some.ensures.steps c.loop-key.invariant.others

pub loop-key-preserved : goal.loop-key-preserved
loop-key-preserved c =
    let here = rest-clock c.in-Some.key c.next.new.self c.loop-key.key-iterator c.args.self.now c.loop-key.pairs c.take_clock-here.result c.in-Some.ensures.steps c.loop-key.invariant.pairs c.take_clock-here.ensures.clock in
    let there = rest-clock c.in-Some.key c.next.new.self c.loop-key.key-iterator c.args.other.now c.loop-key.other_pairs c.take_clock-there.result c.in-Some.ensures.steps c.loop-key.invariant.others c.take_clock-there.ensures.clock in
    let most : c.max.result ≡ max c.take_clock-here.result c.take_clock-there.result = search rules in
    record {
      pairs = rest-next c.in-Some.key c.next.new.self c.loop-key.key-iterator c.args.self.now c.loop-key.pairs c.take_clock-here.new.self c.in-Some.ensures.steps c.loop-key.invariant.pairs
          c.take_clock-here.ensures.rising c.take_clock-here.ensures.others;
      others = rest-next c.in-Some.key c.next.new.self c.loop-key.key-iterator c.args.other.now c.loop-key.other_pairs c.take_clock-there.new.self c.in-Some.ensures.steps c.loop-key.invariant.others
          c.take_clock-there.ensures.rising c.take_clock-there.ensures.others;
      clocks = greater-next c.args.self.now c.args.other.now c.loop-key.clocks.items c.push.new.self.items c.loop-key.yielded c.in-Some.key c.max.result c.in_ok-push.ensures.items c.loop-key.invariant.clocks
          (most ∙ ap₂ max here there);
    }
