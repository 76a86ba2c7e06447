use Rattle.qprop_cli.proofs.StreamLemmas.{one_stream, one_wrong, stream_is_accepted}
use Rattle.qprop_cli.proofs.commands.frames.laws.streams_are_told.Goals as goal

pub returns-clause-frames : goal.returns-clause-frames
returns-clause-frames c = one_stream

pub returns-clause-wrong : goal.returns-clause-wrong
returns-clause-wrong c = one_wrong

pub returns-clause-refused : goal.returns-clause-refused
returns-clause-refused c = stream_is_accepted
