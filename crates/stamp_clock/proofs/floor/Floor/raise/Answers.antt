use Rattle.std.proofs.Common.{sym, subst, ap, ◌∙◌}
use Rattle.propagation.specs.Stamps.{Stamps}
use Rattle.service_machine.specs.States.{raise}
use Rattle.stamp_clock.proofs.FloorLemmas.{ArePairs, are-pairs, pairs-first, pairs-rest}
use Rattle.stamp_clock.proofs.floor.Floor.raise.Goals as goal

pub loop-key-init : goal.loop-key-init
loop-key-init c =
    let whole = c.into_iter-key-iterator.ensures.into_iter_gives ∙ c.iter-key-items.ensures.pairs in
    (subst (λ (S : Stamps). ArePairs S) (sym whole) (are-pairs c.args.stamps.now c.iter-key-items.ensures.stamps), ap (λ (S : Stamps). raise c.args.self.now S) whole)

pub raise_one-requires-clause-positive : goal.raise_one-requires-clause-positive
raise_one-requires-clause-positive c = (pairs-first c.loop-key.key-iterator c.next.new.self (c.in-Some.key, c.in-Some.clock) c.in-Some.ensures.steps c.loop-key.invariant.0).1

pub loop-key-preserved : goal.loop-key-preserved
loop-key-preserved c = (
  pairs-rest c.loop-key.key-iterator c.next.new.self (c.in-Some.key, c.in-Some.clock) c.in-Some.ensures.steps c.loop-key.invariant.0,
  ap (λ (F : Stamps). raise F c.next.new.self) c.raise_one.ensures ∙ ap (λ (S : Stamps). raise c.loop-key.self S) (sym c.in-Some.ensures.steps) ∙ c.loop-key.invariant.1,
)
