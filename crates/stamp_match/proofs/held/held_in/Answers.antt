use Rattle.std.proofs.Common.{◌≡◌, ◌<◌, ◌≤◌, ◌⊎◌, ◌+◌, ◌++◌, ◌∷◌, [], suc, length, length-append, List, ℕ, inl, inr, sym, subst, ap, ◌∙◌, arith}
use Rattle.std.proofs.lemmas.Bool.{ltb-true, ltb-false}
use Rattle.propagation.specs.Lists.{Has}
use Rattle.propagation.specs.Stamps.{Stamps, clock_of, IsRising}
use Rattle.stamp_clock.proofs.FloorLemmas.{ArePairs, are-pairs, pairs-first, pairs-rest}
use Rattle.stamp_clock.proofs.RiseLemmas.{all-has}
use Rattle.stamp_match.proofs.HeldLemmas.{AreFound, AreOf, AreBefore, are-of, of-first, of-rest, only-more, found-on, found-more, before-first, before-on, before-more}
use Rattle.stamp_match.proofs.held.held_in.Goals.{else-is_above-via-then-is_above+else-not-is_below, else-is_above-via-else-is_above}
use Rattle.stamp_match.proofs.held.held_in.Goals as goal

pub loop-key-init : goal.loop-key-init
loop-key-init g c =
    let whole = c.into_iter-key-iterator.ensures.into_iter_gives ∙ c.iter-key-items.ensures.pairs in
    let empty : (q : ℕ) → Has c.new-held.result q → ⊥ = λ q has. subst (λ (ks : List ℕ). Has ks q) c.new-held.ensures has in
    record {
      pairs = subst (λ (S : Stamps). ArePairs S) (sym whole) (are-pairs c.args.stamps.now c.iter-key-items.ensures.stamps);
      of = subst (λ (S : Stamps). AreOf c.args.stamps.now S) (sym whole) (are-of c.args.stamps.now 0 c.iter-key-items.ensures.stamps.rising);
      before = record { bound = 0; rising = subst (λ (S : Stamps). IsRising 0 S) (sym whole) c.iter-key-items.ensures.stamps.rising; below = λ q has. absurd (empty q has) };
      found = λ q. inl (ap (λ (S : Stamps). clock_of S q) whole);
      only = λ q has. absurd (empty q has);
      few = let none : length c.new-held.result ≡ 0 = ap length c.new-held.ensures in let all : length c.into_iter-key-iterator.result ≡ length c.args.stamps.now = ap length whole in omega arith;
      looks = ap (λ (S : Stamps). c.args.looks.now + length S) whole;
    }

pub push-requires-clause-below : goal.push-requires-clause-below
push-requires-clause-below g c = (pairs-first c.loop-key.key-iterator c.next.new.self (c.in-Some.key, c.in-Some.clock) c.in-Some.ensures.steps c.loop-key.invariant.pairs).0

pub push-requires-clause-above : goal.push-requires-clause-above
push-requires-clause-above g c =
    all-has (λ before. before < c.in-Some.key) c.loop-key.held (before-first c.loop-key.held c.loop-key.key-iterator c.next.new.self (c.in-Some.key, c.in-Some.clock) c.in-Some.ensures.steps c.loop-key.invariant.before)

pub loop-key-preserved-then-not-is_below : goal.loop-key-preserved-then-not-is_below
loop-key-preserved-then-not-is_below g c =
    let more : length c.loop-key.key-iterator ≡ suc (length c.next.new.self) = ap length c.in-Some.ensures.steps in
    let pushed : c.push.new.self ≡ c.loop-key.held ++ c.in-Some.key ∷ [] = c.push.ensures in
    let top : clock_of c.args.greatest_clocks.now c.in-Some.key ≤ c.in-Some.clock = ltb-false c.in-Some.clock (clock_of c.args.greatest_clocks.now c.in-Some.key) (sym c.is_below.ensures ∙ c.if-not-is_below.true) in
    record {
      pairs = pairs-rest c.loop-key.key-iterator c.next.new.self (c.in-Some.key, c.in-Some.clock) c.in-Some.ensures.steps c.loop-key.invariant.pairs;
      of = of-rest c.args.stamps.now c.loop-key.key-iterator c.next.new.self (c.in-Some.key, c.in-Some.clock) c.in-Some.ensures.steps c.loop-key.invariant.of;
      before = subst (λ (ks : List ℕ). AreBefore ks c.next.new.self) (sym pushed)
          (before-more c.loop-key.held c.loop-key.key-iterator c.next.new.self (c.in-Some.key, c.in-Some.clock) c.in-Some.ensures.steps c.loop-key.invariant.before);
      found = subst (λ (ks : List ℕ). AreFound c.args.greatest_clocks.now c.args.floor.now c.args.stamps.now c.next.new.self ks) (sym pushed)
          (found-more c.args.greatest_clocks.now c.args.floor.now c.args.stamps.now c.loop-key.key-iterator c.next.new.self c.loop-key.held c.in-Some.key c.in-Some.clock c.in-Some.ensures.steps c.loop-key.invariant.found);
      only = subst (λ (ks : List ℕ). (q : ℕ) → Has ks q → clock_of c.args.greatest_clocks.now q ≤ clock_of c.args.stamps.now q) (sym pushed)
          (only-more c.args.greatest_clocks.now c.args.stamps.now c.loop-key.held c.in-Some.key c.in-Some.clock
          (of-first c.args.stamps.now c.loop-key.key-iterator c.next.new.self (c.in-Some.key, c.in-Some.clock) c.in-Some.ensures.steps c.loop-key.invariant.of) top c.loop-key.invariant.only);
      few = let one : length c.push.new.self ≡ length (c.loop-key.held ++ c.in-Some.key ∷ []) = ap length pushed in
          let long = length-append c.loop-key.held (c.in-Some.key ∷ []) in
          omega (arith, c.loop-key.invariant.few);
      looks = omega (arith, c.tick.ensures, c.loop-key.invariant.looks);
    }

pub loop-key-preserved : goal.loop-key-preserved
loop-key-preserved g c =
    let more : length c.loop-key.key-iterator ≡ suc (length c.next.new.self) = ap length c.in-Some.ensures.steps in
    let free : (c.in-Some.clock ≤ clock_of c.args.floor.now c.in-Some.key) ⊎ (c.in-Some.clock < clock_of c.args.greatest_clocks.now c.in-Some.key) = elim c.else-is_above.branch [
      | else-is_above-via-then-is_above+else-not-is_below w ↦ inr (ltb-true c.in-Some.clock (clock_of c.args.greatest_clocks.now c.in-Some.key) (sym w.is_below.ensures ∙ w.if-not-is_below.false))
      | else-is_above-via-else-is_above w ↦ inl (ltb-false (clock_of c.args.floor.now c.in-Some.key) c.in-Some.clock (sym c.is_above.ensures ∙ w.if-is_above.false))
    ] in
    record {
      pairs = pairs-rest c.loop-key.key-iterator c.next.new.self (c.in-Some.key, c.in-Some.clock) c.in-Some.ensures.steps c.loop-key.invariant.pairs;
      of = of-rest c.args.stamps.now c.loop-key.key-iterator c.next.new.self (c.in-Some.key, c.in-Some.clock) c.in-Some.ensures.steps c.loop-key.invariant.of;
      before = before-on c.loop-key.held c.loop-key.key-iterator c.next.new.self (c.in-Some.key, c.in-Some.clock) c.in-Some.ensures.steps c.loop-key.invariant.before;
      found = found-on c.args.greatest_clocks.now c.args.floor.now c.args.stamps.now c.loop-key.key-iterator c.next.new.self c.loop-key.held c.in-Some.key c.in-Some.clock c.in-Some.ensures.steps c.loop-key.invariant.found free;
      only = c.loop-key.invariant.only;
      few = omega (arith, c.loop-key.invariant.few);
      looks = omega (arith, c.tick.ensures, c.loop-key.invariant.looks);
    }
