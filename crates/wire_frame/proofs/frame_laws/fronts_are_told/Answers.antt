use Rattle.wire_frame.proofs.Agreeing.{bad_once}
use Rattle.wire_frame.proofs.Told.{same_front}
use Rattle.wire_frame.proofs.frame_laws.fronts_are_told.Goals as goal

pub returns-clause-one : goal.returns-clause-one
returns-clause-one c = same_front

pub returns-clause-none : goal.returns-clause-none
returns-clause-none c = λ bytes frame n place why front bad. bad.none n (frame, front.frame_of)

pub returns-clause-place : goal.returns-clause-place
returns-clause-place c = bad_once
