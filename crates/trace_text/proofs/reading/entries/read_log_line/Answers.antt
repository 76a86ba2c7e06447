use Rattle.std.proofs.Common.{length}
use Rattle.std.proofs.lemmas.Result.{IfOk-weaker}
use Rattle.trace_text.specs.Naming.{naming_of}
use Rattle.trace_text.proofs.Marks.{no_mark, log_read}
use Rattle.trace_text.proofs.reading.entries.read_log_line.Goals as goal

pub returns-in_default : goal.returns-in_default
returns-in_default c = no_mark (naming_of c.args.names.now) (length c.args.names.now) c.args.line.now c.in_default.ensures.cases

pub returns : goal.returns
returns c =
    IfOk-weaker c.read_owned_entry.result _ _ (λ result read. log_read (naming_of c.args.names.now) (length c.args.names.now) c.args.line.now c.in-Some.behind.now c.in-Some.ensures.cases.0 c.in-Some.ensures.cases.1 result read) c.read_owned_entry.ensures
