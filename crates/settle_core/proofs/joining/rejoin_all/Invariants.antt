use Rattle.settle_core.specs.Inside.Joining.{GatheredBelow}
use Rattle.settle_core.proofs.joining.rejoin_all.Given as goal

abbrev pub invariant-loop-place : goal.invariant-loop-place
invariant-loop-place l = GatheredBelow l.place l.fn.all.items l.all.items l.fn.links.items l.links.items
