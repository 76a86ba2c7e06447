use Rattle.std.proofs.Common.{◌≡◌, drop}
use Rattle.propagation.specs.Lists.{is_among}
use Rattle.node_core.proofs.definitions.has.Given as goal

abbrev pub invariant-loop-one : goal.invariant-loop-one
invariant-loop-one l = is_among (drop l.one-index l.ids) l.id ≡ is_among l.ids l.id
