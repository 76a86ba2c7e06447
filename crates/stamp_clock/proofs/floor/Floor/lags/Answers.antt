use Rattle.std.proofs.Common.{sym, subst, ap, ◌∙◌}
use Rattle.propagation.specs.Stamps.{Stamps}
use Rattle.service_machine.specs.Turning.{lag}
use Rattle.stamp_clock.proofs.FloorLemmas.{ArePairs, are-pairs, pairs-rest, lag-on, lag-here}
use Rattle.stamp_clock.proofs.floor.Floor.lags.Goals as goal

pub loop-key-init : goal.loop-key-init
loop-key-init c =
    let whole = c.into_iter-key-iterator.ensures.into_iter_gives ∙ c.iter-key-items.ensures.pairs in
    (subst (λ (S : Stamps). ArePairs S) (sym whole) (are-pairs c.args.stamps.now c.iter-key-items.ensures.stamps), ap (λ (S : Stamps). lag c.args.self.now S) whole)

pub loop-key-preserved : goal.loop-key-preserved
loop-key-preserved c = (
  pairs-rest c.loop-key.key-iterator c.next.new.self (c.in-Some.key, c.in-Some.clock) c.in-Some.ensures.steps c.loop-key.invariant.0,
  lag-on c.args.self.now c.loop-key.key-iterator c.next.new.self c.args.stamps.now c.in-Some.key c.in-Some.clock c.clock.result c.in-Some.ensures.steps c.loop-key.invariant.1 c.clock.ensures (sym c.lt.ensures ∙ c.if-lt.false),
)

pub returns-then-lt : goal.returns-then-lt
returns-then-lt c =
    lag-here c.args.self.now c.loop-key.key-iterator c.next.new.self c.args.stamps.now c.in-Some.key c.in-Some.clock c.clock.result c.in-Some.ensures.steps c.loop-key.invariant.1 c.clock.ensures (sym c.lt.ensures ∙ c.if-lt.true)
