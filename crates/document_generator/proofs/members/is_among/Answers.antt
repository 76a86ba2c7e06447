use Rattle.std.proofs.Common.{◌∙◌, sym}
use Rattle.svc_graph.proofs.Lists.{is_among-list_any}
use Rattle.document_generator.proofs.members.is_among.Goals as goal

pub returns : goal.returns
returns c = c.contains.ensures.value ∙ sym (is_among-list_any c.args.numbers.now c.args.q)
