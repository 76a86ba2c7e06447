use Rattle.std.proofs.Common.{sym, ap, ◌∙◌}
use Rattle.propagation.specs.Stamps.{keys}
use Rattle.stamp_clock.proofs.BesideLemmas.{keys-beside}
use Rattle.stamp_clock.proofs.stamps.Stamps.keys.Goals as goal

pub returns-clause-keys : goal.returns-clause-keys
returns-clause-keys c = sym (keys-beside c.self.inside.keys c.self.inside.clocks.items c.self.invariant.lengths) ∙ ap keys c.self.view_is

pub returns-clause-are_keys : goal.returns-clause-are_keys
returns-clause-are_keys c = c.self.invariant.are_keys
