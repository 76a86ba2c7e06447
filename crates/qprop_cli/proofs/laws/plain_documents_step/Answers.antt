use Rattle.qprop_cli.proofs.ModeLemmas.{plain_documents_step}
use Rattle.qprop_cli.proofs.laws.plain_documents_step.Goals as goal

pub returns : goal.returns
returns c = plain_documents_step
