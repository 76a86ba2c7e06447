use Rattle.wire_frame.proofs.Framing.{wrong_once, wrong_stays, wrong_is_none, wrong_is_whole}
use Rattle.wire_frame.proofs.frame_laws.wrong_frames_stay.Goals as goal

pub returns-clause-one : goal.returns-clause-one
returns-clause-one c = wrong_once

pub returns-clause-stays : goal.returns-clause-stays
returns-clause-stays c = wrong_stays

pub returns-clause-none : goal.returns-clause-none
returns-clause-none c = wrong_is_none

pub returns-clause-whole : goal.returns-clause-whole
returns-clause-whole c = wrong_is_whole
