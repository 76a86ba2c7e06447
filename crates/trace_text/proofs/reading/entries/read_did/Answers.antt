use Rattle.trace_text.proofs.EntryReading.{no_did}
use Rattle.trace_text.proofs.reading.entries.read_did.Goals as goal

pub returns-in_default : goal.returns-in_default
returns-in_default c = no_did c.args.digits.now c.in_default.ensures
