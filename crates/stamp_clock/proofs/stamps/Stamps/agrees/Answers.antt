use Rattle.std.proofs.Common.{ℕ, ◌<◌, List, sym, subst, ◌∙◌, inl, inr, IsTrue}
use Rattle.propagation.specs.Lists.{Has}
use Rattle.propagation.specs.Stamps.{clock_of}
use Rattle.stamp_clock.proofs.JoinLemmas.{is-key, rest-start, rest-first, rest-next, rest-clock, agree-step}
use Rattle.stamp_clock.proofs.stamps.Stamps.agrees.Goals as goal

pub loop-key-init : goal.loop-key-init
loop-key-init c =
    let keys = c.union-key-items in
    let is = c.into_iter-key-iterator.ensures.into_iter_gives in
    let here : (q : ℕ) → 0 < clock_of c.args.self.now q → Has keys.result q =
    λ q h. (keys.ensures.either q).1 (inl ((is-key c.self.inside.keys c.self.inside.clocks.items c.args.self.now q c.self.invariant c.self.view_is).1 h)) in
    let there : (q : ℕ) → 0 < clock_of c.args.other.now q → Has keys.result q =
    λ q h. (keys.ensures.either q).1 (inr ((is-key c.other.inside.keys c.other.inside.clocks.items c.args.other.now q c.other.invariant c.other.view_is).1 h)) in
    record {
      pairs = rest-start c.into_iter-key-iterator.result keys.result c.args.self.now c.iter-pairs.result is keys.ensures.keys c.iter-pairs.ensures.stamps.rising here c.iter-pairs.ensures.pairs;
      others = rest-start c.into_iter-key-iterator.result keys.result c.args.other.now c.iter-other_pairs.result is keys.ensures.keys c.iter-other_pairs.ensures.stamps.rising there c.iter-other_pairs.ensures.pairs;
      agree = λ q s r. inr (subst (λ (ks : List ℕ). Has ks q) (sym is) (here q s));
    }

pub take_clock-here-requires : goal.take_clock-here-requires
take_clock-here-requires c = rest-first c.in-Some.key c.next.new.self c.loop-key.key-iterator c.args.self.now c.loop-key.pairs c.in-Some.ensures.steps c.loop-key.invariant.pairs

pub take_clock-there-requires : goal.take_clock-there-requires
take_clock-there-requires c = rest-first c.in-Some.key c.next.new.self c.loop-key.key-iterator c.args.other.now c.loop-key.other_pairs c.in-Some.ensures.steps c.loop-key.invariant.others

pub loop-key-preserved : goal.loop-key-preserved
loop-key-preserved c =
    let here = rest-clock c.in-Some.key c.next.new.self c.loop-key.key-iterator c.args.self.now c.loop-key.pairs c.take_clock-here.result c.in-Some.ensures.steps c.loop-key.invariant.pairs c.take_clock-here.ensures.clock in
    let there = rest-clock c.in-Some.key c.next.new.self c.loop-key.key-iterator c.args.other.now c.loop-key.other_pairs c.take_clock-there.result c.in-Some.ensures.steps c.loop-key.invariant.others c.take_clock-there.ensures.clock in
    record {
      pairs = rest-next c.in-Some.key c.next.new.self c.loop-key.key-iterator c.args.self.now c.loop-key.pairs c.take_clock-here.new.self c.in-Some.ensures.steps c.loop-key.invariant.pairs
          c.take_clock-here.ensures.rising c.take_clock-here.ensures.others;
      others = rest-next c.in-Some.key c.next.new.self c.loop-key.key-iterator c.args.other.now c.loop-key.other_pairs c.take_clock-there.new.self c.in-Some.ensures.steps c.loop-key.invariant.others
          c.take_clock-there.ensures.rising c.take_clock-there.ensures.others;
      agree = agree-step c.in-Some.key c.next.new.self c.loop-key.key-iterator c.args.self.now c.args.other.now c.in-Some.ensures.steps c.loop-key.invariant.agree
          (λ s r. sym here ∙ c.clocks_agree.ensures.0 c.if-not-clocks_agree.false (subst (λ n. 0 < n) (sym here) s) (subst (λ n. 0 < n) (sym there) r) ∙ there);
    }

pub returns-then-not-clocks_agree : goal.returns-then-not-clocks_agree
returns-then-not-clocks_agree c =
    let here = rest-clock c.in-Some.key c.next.new.self c.loop-key.key-iterator c.args.self.now c.loop-key.pairs c.take_clock-here.result c.in-Some.ensures.steps c.loop-key.invariant.pairs c.take_clock-here.ensures.clock in
    let there = rest-clock c.in-Some.key c.next.new.self c.loop-key.key-iterator c.args.other.now c.loop-key.other_pairs c.take_clock-there.result c.in-Some.ensures.steps c.loop-key.invariant.others c.take_clock-there.ensures.clock in (
      λ t. absurd (cc t),
      λ a. absurd
          (let agree : IsTrue c.clocks_agree.result = c.clocks_agree.ensures.1 (λ s r. here ∙ a c.in-Some.key (subst (λ n. 0 < n) here s) (subst (λ n. 0 < n) there r) ∙ sym there) in
          cc (agree, c.if-not-clocks_agree.true)),
    )
