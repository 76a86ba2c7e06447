use Rattle.std.proofs.Common.{◌≡◌, ◌≤◌, ◌<◌, ◌+◌, true≢false, suc, length, List, ℕ, inl, inr, refl, sym, subst, ap, ◌∙◌, arith}
use Rattle.std.proofs.lemmas.Bool.{ltb-true, ltb-false}
use Rattle.propagation.specs.Stamps.{clock_of}
use Rattle.propagation.specs.Lists.{Has}
use Rattle.stamp_match.proofs.HeldLemmas.{over-on}
use Rattle.stamp_match.proofs.held.falls_in.Goals as goal

pub loop-key-init : goal.loop-key-init
loop-key-init g c =
    let whole = c.into_iter-key-iterator.ensures.into_iter_gives in
    record {
      some = λ q has. subst (λ (ks : List ℕ). Has ks q) whole has;
      over = λ q has. inl (subst (λ (ks : List ℕ). Has ks q) (sym whole) has);
      looks = ap (λ (ks : List ℕ). c.args.looks.now + length ks) whole;
    }

pub loop-key-preserved : goal.loop-key-preserved
loop-key-preserved g c =
    let more : length c.loop-key.key-iterator ≡ suc (length c.next.new.self) = ap length c.in-Some.ensures.steps in
    let le : clock_of c.args.greatest_clocks.now c.in-Some.key ≤ clock_of c.args.stamps.now c.in-Some.key = ltb-false (clock_of c.args.stamps.now c.in-Some.key) (clock_of c.args.greatest_clocks.now c.in-Some.key) (sym c.falls_on.ensures ∙ c.if-falls_on.false) in
    record {
      some = λ q has. c.loop-key.invariant.some q (subst (λ (ks : List ℕ). Has ks q) (sym c.in-Some.ensures.steps) (inr has));
      over = over-on c.args.greatest_clocks.now c.args.held c.args.stamps.now c.loop-key.key-iterator c.next.new.self c.in-Some.key c.in-Some.ensures.steps c.loop-key.invariant.over le;
      looks = omega (arith, c.tick.ensures, c.loop-key.invariant.looks);
    }

pub returns-then-falls_on-clause-falls : goal.returns-then-falls_on-clause-falls
returns-then-falls_on-clause-falls g c =
    let has : Has c.args.held c.in-Some.key = c.loop-key.invariant.some c.in-Some.key (subst (λ (ks : List ℕ). Has ks c.in-Some.key) (sym c.in-Some.ensures.steps) (inl refl)) in
    let lt : clock_of c.args.stamps.now c.in-Some.key < clock_of c.args.greatest_clocks.now c.in-Some.key = ltb-true (clock_of c.args.stamps.now c.in-Some.key) (clock_of c.args.greatest_clocks.now c.in-Some.key) (sym c.falls_on.ensures ∙ c.if-falls_on.true) in
    ((λ h. absurd (true≢false h)), (λ reached. absurd (omega (arith, lt, reached c.in-Some.key has))))
