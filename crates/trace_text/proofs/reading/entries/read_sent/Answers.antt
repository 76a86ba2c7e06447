use Rattle.std.proofs.Common.{◌<◌, length}
use Rattle.trace_text.specs.Entries.{AreBytes}
use Rattle.trace_text.specs.Lines.{frame_text}
use Rattle.trace_text.specs.Naming.{naming_of}
use Rattle.trace_text.proofs.EntryReading.{no_sent}
use Rattle.trace_text.proofs.Pieces.{none_of}
use Rattle.trace_text.proofs.reading.entries.read_sent.Goals as goal

pub returns-in_default : goal.returns-in_default
returns-in_default c =
    no_sent (naming_of c.args.names.now) (length c.args.names.now) c.args.text.now
    (none_of (λ pair. (pair.0 < length c.args.names.now) × AreBytes pair.1) (λ pair. frame_text (naming_of c.args.names.now) pair.0 pair.1) c.args.text.now c.in_ok-frame.field-0 c.in_default.is c.in_ok-frame.ensures)
