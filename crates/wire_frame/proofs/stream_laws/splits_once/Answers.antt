use Rattle.wire_frame.proofs.Cutting.{one_splitting, one_rest}
use Rattle.wire_frame.proofs.stream_laws.splits_once.Goals as goal

pub returns-clause-items : goal.returns-clause-items
returns-clause-items c = λ stream items rest h. one_splitting stream rest items h

pub returns-clause-rest : goal.returns-clause-rest
returns-clause-rest c = λ stream items one other h k. one_rest stream items one other h k
