use Rattle.wire_frame.proofs.Messages.{one_message, one_spelling}
use Rattle.wire_frame.proofs.frame_laws.messages_are_told.Goals as goal

pub returns-clause-message : goal.returns-clause-message
returns-clause-message c = one_message

pub returns-clause-bytes : goal.returns-clause-bytes
returns-clause-bytes c = one_spelling
