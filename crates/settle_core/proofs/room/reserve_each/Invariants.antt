use Rattle.std.proofs.Common.{take}
use Rattle.settle_core.proofs.TableLemmas.{Reserved}
use Rattle.settle_core.proofs.room.reserve_each.Given as goal

abbrev pub invariant-loop-id : goal.invariant-loop-id
invariant-loop-id l = Reserved (take l.id-index l.to) l.sender l.fn.links.items l.links.items
