use Rattle.trace_text.proofs.LeavingOut.{trace_goes}
use Rattle.trace_text.proofs.laws.traces_are_left_out.Goals as goal

pub returns : goal.returns
returns c = λ name count flags trace rest named is. trace_goes name count named flags trace rest is
