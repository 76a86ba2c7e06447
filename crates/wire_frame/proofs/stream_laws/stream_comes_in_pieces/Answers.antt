use Rattle.std.proofs.Common.{inl, inr}
use Rattle.wire_frame.proofs.Cutting.{cutting_begun, cutting_fed, cutting_next, cutting_stuck, too_long_more}
use Rattle.wire_frame.proofs.stream_laws.stream_comes_in_pieces.Goals as goal

pub returns-clause-begun : goal.returns-clause-begun
returns-clause-begun c = cutting_begun

pub returns-clause-fed : goal.returns-clause-fed
returns-clause-fed c = cutting_fed

pub returns-clause-answered : goal.returns-clause-answered
returns-clause-answered c = cutting_next

pub returns-clause-partial : goal.returns-clause-partial
returns-clause-partial c = λ stream items cut h stuck. cutting_stuck stream items cut h (inl stuck)

pub returns-clause-too_long : goal.returns-clause-too_long
returns-clause-too_long c = λ stream items cut h stuck. cutting_stuck stream items cut h (inr stuck)

pub returns-clause-stays : goal.returns-clause-stays
returns-clause-stays c = too_long_more
