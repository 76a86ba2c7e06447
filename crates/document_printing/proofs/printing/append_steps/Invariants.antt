use Rattle.std.proofs.Common.{◌≡◌, ◌++◌, map, take}
use Rattle.document_printing.specs.Canonical.{step_text, with_line_ends}
use Rattle.document_printing.proofs.printing.append_steps.Given as goal

abbrev pub invariant-loop-step : goal.invariant-loop-step
invariant-loop-step l = l.out.items ≡ l.fn.out.items ++ with_line_ends (map (λ step. step_text l.services step.event) (take l.step-index l.steps))
