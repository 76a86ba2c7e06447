use Rattle.std.proofs.Common.{take}
use Rattle.qprop_cli.specs.Inside.StepLines.{HasStepped}
use Rattle.qprop_cli.proofs.commands.step.events.make_steps.Given as goal

abbrev pub invariant-loop-step : goal.invariant-loop-step
invariant-loop-step l = HasStepped l.is_wanted (take l.step-index l.steps) l.fn.network l.network l.fn.out.items l.out.items
