use Rattle.document_generator.proofs.GeneratorAccepted.{generated_accepted}
use Rattle.document_generator.proofs.generator.made_is_accepted.Goals as goal

pub returns : goal.returns
returns c = generated_accepted
