use Rattle.svc_value.proofs.Meanings.{one_printed}
use Rattle.svc_value.proofs.literal.one_printed.Goals as goal

pub returns : goal.returns
returns c = one_printed
