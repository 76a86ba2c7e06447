use Rattle.svc_value.proofs.Utf8Places.{ends_short, cut_at}
use Rattle.svc_value.proofs.taken.text_of.Goals as goal

pub returns-in-Ok-2-clause-place : goal.returns-in-Ok-2-clause-place
returns-in-Ok-2-clause-place c = ends_short c.args.len c.min.result c.args.bytes.now c.in-Ok.text.now c.min.ensures c.in-Ok.ensures.cases.0 c.in-Ok.ensures.cases.1

pub returns-in-Err-clause-place : goal.returns-in-Err-clause-place
returns-in-Err-clause-place c = cut_at c.args.len c.min.result c.end_of_text.result c.args.bytes.now c.min.ensures c.end_of_text.ensures
