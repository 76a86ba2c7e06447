use Rattle.wire_frame.proofs.Always.{always}
use Rattle.wire_frame.proofs.stream_laws.splits_always.Goals as goal

pub returns : goal.returns
returns c = λ stream h. always stream h
