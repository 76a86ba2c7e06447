use Rattle.svc_value.proofs.Meanings.{one_literal}
use Rattle.svc_value.proofs.literal.one_literal.Goals as goal

pub returns : goal.returns
returns c = one_literal
