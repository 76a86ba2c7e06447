use Rattle.std.proofs.Common.{arith}
use Rattle.std.proofs.lemmas.Bool.Decides.{nat_tests}
use Rattle.node_core.proofs.SlotLemmas.{begun_already}
use Rattle.node_core.proofs.slots.begin_all.Goals as goal

pub returns-then-is_empty : goal.returns-then-is_empty
returns-then-is_empty c = begun_already c.args.entries.now c.args.slots.now.items (grind (arith, nat_tests)) c.requires
