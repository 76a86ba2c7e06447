use Rattle.std.proofs.Common.{◌<◌, sym, ap, subst, refl, ◌∙◌, arith}
use Rattle.propagation.specs.Stamps.{Stamps, clock_of}
use Rattle.stamp_clock.specs.Beside.{AreStamps}
use Rattle.stamp_clock.proofs.BesideLemmas.{are-stamps, clock-at, clock-missing, clock-positive}
use Rattle.stamp_clock.proofs.stamps.Stamps.get.Goals as goal

pub returns-then-contains-clause-clock : goal.returns-then-contains-clause-clock
returns-then-contains-clause-clock c =
    c.index.ensures
    ∙ sym (clock-at 0 c.self.inside.keys c.self.inside.clocks.items c.rank.result c.index.result.now c.args.id c.self.invariant.are_keys.rise c.self.invariant.lengths c.rank.ensures.within c.rank.ensures.place)
    ∙ ap (λ stamps. clock_of stamps c.args.id) c.self.view_is

pub returns-then-contains-clause-none : goal.returns-then-contains-clause-none
returns-then-contains-clause-none c =
    let some : 0 < clock_of c.args.self.now c.args.id = subst (λ (stamps : Stamps). 0 < clock_of stamps c.args.id) c.self.view_is (clock-positive c.self.inside.keys c.self.inside.clocks.items c.args.id c.self.invariant.lengths c.self.invariant.positive (c.contains.ensures.0 c.if-contains.true)) in
    (λ e. absurd (cc e), λ e. absurd (omega arith))

pub returns-then-contains-clause-stamps : goal.returns-then-contains-clause-stamps
returns-then-contains-clause-stamps c = subst (λ stamps. AreStamps stamps) c.self.view_is (are-stamps c.self.inside.keys c.self.inside.clocks.items c.self.invariant)

pub returns-else-contains-clause-none : goal.returns-else-contains-clause-none
returns-else-contains-clause-none c =
    (λ e. sym (ap (λ stamps. clock_of stamps c.args.id) c.self.view_is) ∙ clock-missing c.self.inside.keys c.self.inside.clocks.items c.args.id (λ h. absurd (let t = c.contains.ensures.1 h in cc (t, c.if-contains.false))), λ e. refl)

pub returns-else-contains-clause-stamps : goal.returns-else-contains-clause-stamps
returns-else-contains-clause-stamps c = subst (λ stamps. AreStamps stamps) c.self.view_is (are-stamps c.self.inside.keys c.self.inside.clocks.items c.self.invariant)
