use Rattle.std.proofs.Common.{take}
use Rattle.qprop_cli.specs.Inside.Running.{HasRunAll}
use Rattle.qprop_cli.proofs.commands.load.run_legs.Given as goal

abbrev pub invariant-loop-leg : goal.invariant-loop-leg
invariant-loop-leg l = HasRunAll (take l.leg-index l.legs) l.network
