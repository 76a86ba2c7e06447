use Rattle.trace_text.proofs.Marks.{passed_is}
use Rattle.trace_text.proofs.reading.logs.is_passed_over.Goals as goal

pub returns : goal.returns
returns c = passed_is c.args.body.now c.starts_with-is_step.result c.starts_with-is_sources.result c.starts_with-is_step.ensures.value c.starts_with-is_sources.ensures.value
