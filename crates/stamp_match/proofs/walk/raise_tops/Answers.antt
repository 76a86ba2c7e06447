use Rattle.std.proofs.Common.{◌≡◌, ◌+◌, suc, length, sym, subst, ap, ◌∙◌, arith}
use Rattle.propagation.specs.Stamps.{Stamps}
use Rattle.service_machine.specs.States.{raise}
use Rattle.stamp_clock.proofs.FloorLemmas.{ArePairs, are-pairs, pairs-first, pairs-rest}
use Rattle.stamp_match.proofs.walk.raise_tops.Goals as goal

pub loop-key-init : goal.loop-key-init
loop-key-init g c =
    let whole = c.into_iter-key-iterator.ensures.into_iter_gives ∙ c.iter-key-items.ensures.pairs in (
      subst (λ (S : Stamps). ArePairs S) (sym whole) (are-pairs c.args.stamps.now c.iter-key-items.ensures.stamps),
      ap (λ (S : Stamps). raise c.args.greatest_clocks.now S) whole,
      ap (λ (S : Stamps). c.args.looks.now + length S) whole,
    )

pub raise_one-requires-clause-below : goal.raise_one-requires-clause-below
raise_one-requires-clause-below g c = (pairs-first c.loop-key.key-iterator c.next.new.self (c.in-Some.key, c.in-Some.clock) c.in-Some.ensures.steps c.loop-key.invariant.0).0

pub raise_one-requires-clause-positive : goal.raise_one-requires-clause-positive
raise_one-requires-clause-positive g c = (pairs-first c.loop-key.key-iterator c.next.new.self (c.in-Some.key, c.in-Some.clock) c.in-Some.ensures.steps c.loop-key.invariant.0).1

pub loop-key-preserved : goal.loop-key-preserved
loop-key-preserved g c =
    let more : length c.loop-key.key-iterator ≡ suc (length c.next.new.self) = ap length c.in-Some.ensures.steps in (
      pairs-rest c.loop-key.key-iterator c.next.new.self (c.in-Some.key, c.in-Some.clock) c.in-Some.ensures.steps c.loop-key.invariant.0,
      ap (λ (F : Stamps). raise F c.next.new.self) c.raise_one.ensures ∙ ap (λ (S : Stamps). raise c.loop-key.greatest_clocks S) (sym c.in-Some.ensures.steps) ∙ c.loop-key.invariant.1,
      omega (arith, c.tick.ensures, c.loop-key.invariant.2),
    )
