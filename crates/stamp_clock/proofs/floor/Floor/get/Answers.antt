use Rattle.std.proofs.Common.{get_or, sym, refl, ◌∙◌, eqb-true, arith}
use Rattle.std.proofs.lemmas.Bool.{eqb-false}
use Rattle.stamp_clock.proofs.FloorLemmas.{floor-at, floor-past}
use Rattle.stamp_clock.proofs.floor.Floor.get.Goals as goal

pub returns-then-place-ge64-clause-none : goal.returns-then-place-ge64-clause-none
returns-then-place-ge64-clause-none c =
    (λ e. floor-past c.self.inside.clocks c.args.self.now c.id.inside.0 c.args.id c.self.view_is c.id.view_is (omega (arith, c.self.invariant)), λ e. refl)

pub returns-then-eq-clause-none : goal.returns-then-eq-clause-none
returns-then-eq-clause-none c =
    let d = c.index-clocks-place.result in
    let at = floor-at c.self.inside.clocks c.args.self.now c.id.inside.0 c.args.id d c.self.view_is c.id.view_is (omega (arith, c.self.invariant)) in
    (λ e. sym at ∙ eqb-true (get_or c.self.inside.clocks c.id.inside.0 d) 0 (sym c.eq.ensures ∙ c.if-eq.true), λ e. refl)

pub returns-else-eq-clause-clock : goal.returns-else-eq-clause-clock
returns-else-eq-clause-clock c =
    floor-at c.self.inside.clocks c.args.self.now c.id.inside.0 c.args.id c.index-clocks-place.result c.self.view_is c.id.view_is (omega (arith, c.self.invariant))

pub returns-else-eq-clause-none : goal.returns-else-eq-clause-none
returns-else-eq-clause-none c =
    let d = c.index-clocks-place.result in
    let at = floor-at c.self.inside.clocks c.args.self.now c.id.inside.0 c.args.id d c.self.view_is c.id.view_is (omega (arith, c.self.invariant)) in
    (λ e. absurd (cc e), λ e. absurd (eqb-false (get_or c.self.inside.clocks c.id.inside.0 d) 0 (sym c.eq.ensures ∙ c.if-eq.false) (at ∙ e)))
