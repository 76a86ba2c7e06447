use Rattle.svc_value.proofs.ValuePlaces.{one_value}
use Rattle.svc_value.proofs.layout.one_value.Goals as goal

pub returns : goal.returns
returns c = one_value
