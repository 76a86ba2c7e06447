use Rattle.std.proofs.Common.{◌≡◌, ◌+◌, suc, Some, ltb, length, sym, subst, ap, ◌∙◌, arith}
use Rattle.std.proofs.lemmas.Bool.{cond-true, cond-false}
use Rattle.propagation.specs.Stamps.{Stamps, clock_of}
use Rattle.service_machine.specs.Turning.{lag}
use Rattle.stamp_clock.proofs.FloorLemmas.{ArePairs, are-pairs, pairs-rest}
use Rattle.stamp_match.proofs.walk.first_lag.Goals as goal

pub loop-key-init : goal.loop-key-init
loop-key-init g c =
    let whole = c.into_iter-key-iterator.ensures.into_iter_gives ∙ c.iter-key-items.ensures.pairs in (
      subst (λ (S : Stamps). ArePairs S) (sym whole) (are-pairs c.args.stamps.now c.iter-key-items.ensures.stamps),
      ap (λ (S : Stamps). lag c.args.greatest_clocks.now S) whole,
      ap (λ (S : Stamps). c.args.looks.now + length S) whole,
    )

pub loop-key-preserved : goal.loop-key-preserved
loop-key-preserved g c =
    let more : length c.loop-key.key-iterator ≡ suc (length c.next.new.self) = ap length c.in-Some.ensures.steps in (
      pairs-rest c.loop-key.key-iterator c.next.new.self (c.in-Some.key, c.in-Some.clock) c.in-Some.ensures.steps c.loop-key.invariant.0,
      sym (cond-false (ltb c.in-Some.clock (clock_of c.args.greatest_clocks.now c.in-Some.key)) (Some c.in-Some.key) (lag c.args.greatest_clocks.now c.next.new.self) (sym c.is_below.ensures ∙ c.if-is_below.false))
          ∙ ap (λ (S : Stamps). lag c.args.greatest_clocks.now S) (sym c.in-Some.ensures.steps) ∙ c.loop-key.invariant.1,
      omega (arith, c.tick.ensures, c.loop-key.invariant.2),
    )

pub returns-then-is_below-clause-key : goal.returns-then-is_below-clause-key
returns-then-is_below-clause-key g c =
    sym (cond-true (ltb c.in-Some.clock (clock_of c.args.greatest_clocks.now c.in-Some.key)) (Some c.in-Some.key) (lag c.args.greatest_clocks.now c.next.new.self) (sym c.is_below.ensures ∙ c.if-is_below.true))
    ∙ ap (λ (S : Stamps). lag c.args.greatest_clocks.now S) (sym c.in-Some.ensures.steps) ∙ c.loop-key.invariant.1
