use Rattle.std.proofs.Common.{length}
use Rattle.trace_text.specs.Entries.{IsComputation}
use Rattle.trace_text.specs.Lines.{computation_text}
use Rattle.trace_text.specs.Naming.{naming_of}
use Rattle.trace_text.proofs.EntryReading.{no_computed}
use Rattle.trace_text.proofs.Pieces.{none_of}
use Rattle.trace_text.proofs.reading.entries.read_computed.Goals as goal

pub returns-in_default : goal.returns-in_default
returns-in_default c =
    no_computed (naming_of c.args.names.now) (length c.args.names.now) c.args.text.now
    (none_of (IsComputation (length c.args.names.now)) (computation_text (naming_of c.args.names.now)) c.args.text.now c.in_ok-computation.field-0 c.in_default.is c.in_ok-computation.ensures)
