use Rattle.trace_text.proofs.Pieces.{no_text}
use Rattle.trace_text.proofs.reading.computations.read_printed.Goals as goal

pub returns-in-Err : goal.returns-in-Err
returns-in-Err c = no_text c.args.bytes.now c.in-Err.ensures.cases.0
