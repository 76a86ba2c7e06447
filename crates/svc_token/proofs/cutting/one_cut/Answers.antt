use Rattle.svc_token.proofs.CutLemmas.{one_cut}
use Rattle.svc_token.proofs.cutting.one_cut.Goals as goal

pub returns : goal.returns
returns c = one_cut
