use Rattle.std.proofs.Common.{sym, ap, ◌∙◌}
use Rattle.stamp_clock.specs.Beside.{clocks}
use Rattle.stamp_clock.proofs.BesideLemmas.{clocks-beside}
use Rattle.stamp_clock.proofs.stamps.Stamps.into_clocks.Goals as goal

pub returns : goal.returns
returns c = c.from_vec.ensures ∙ sym (clocks-beside c.self.inside.keys c.self.inside.clocks.items c.self.invariant.lengths) ∙ ap clocks c.self.view_is
