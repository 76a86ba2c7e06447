use Rattle.std.proofs.Common.{length}
use Rattle.std.proofs.lemmas.Result.{IfOk-weaker}
use Rattle.trace_text.specs.Naming.{naming_of}
use Rattle.trace_text.proofs.EntryReading.{no_blank, entry_read}
use Rattle.trace_text.proofs.reading.entries.read_entry.Goals as goal

pub returns-in_default : goal.returns-in_default
returns-in_default c = no_blank (naming_of c.args.names.now) (length c.args.names.now) c.args.text.now c.in_default.ensures

pub returns : goal.returns
returns c = IfOk-weaker c.read_behind.result _ _ (λ result read. entry_read (naming_of c.args.names.now) (length c.args.names.now) c.args.text.now c.in-Some.word.now c.in-Some.behind.now c.in-Some.ensures result read) c.read_behind.ensures
