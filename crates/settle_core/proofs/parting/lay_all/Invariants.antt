use Rattle.std.proofs.Common.{take}
use Rattle.settle_core.specs.Inside.Parting.{LaysAll}
use Rattle.settle_core.proofs.parting.lay_all.Given as goal

abbrev pub invariant-loop-other : goal.invariant-loop-other
invariant-loop-other l = LaysAll l.id (take l.other-index l.others) l.fn.all.items l.all.items
