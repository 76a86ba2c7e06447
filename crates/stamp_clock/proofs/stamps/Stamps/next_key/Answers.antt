use Rattle.std.proofs.Common.{sym, ap, subst, ◌∙◌, find, nat_le}
use Rattle.propagation.specs.Stamps.{keys}
use Rattle.stamp_clock.specs.Beside.{AreStamps}
use Rattle.stamp_clock.proofs.BesideLemmas.{are-stamps, keys-beside}
use Rattle.stamp_clock.proofs.stamps.Stamps.next_key.Goals as goal

pub returns-clause-key : goal.returns-clause-key
returns-clause-key c = c.first_from.ensures ∙ ap (find (nat_le c.args.start)) (sym (keys-beside c.self.inside.keys c.self.inside.clocks.items c.self.invariant.lengths) ∙ ap keys c.self.view_is)

pub returns-clause-stamps : goal.returns-clause-stamps
returns-clause-stamps c = subst (λ stamps. AreStamps stamps) c.self.view_is (are-stamps c.self.inside.keys c.self.inside.clocks.items c.self.invariant)
