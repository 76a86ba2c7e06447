use Rattle.settle_core.proofs.RestLemmas.{frame_there, some_next}
use Rattle.settle_core.proofs.joining.hand_rest.Goals as goal

pub append-requires-clause-there : goal.append-requires-clause-there
append-requires-clause-there c =
    frame_there c.args.from c.in-Some.outgoing_frame.0 c.in-Some.outgoing_frame.1 c.args.node.now c.loop-outgoing_frame.node c.pop_out.new.self c.args.links.now.items c.loop-outgoing_frame.links.items c.loop-outgoing_frame.invariant c.in-Some.ensures.some

pub loop-outgoing_frame-preserved : goal.loop-outgoing_frame-preserved
loop-outgoing_frame-preserved c =
    some_next c.args.from c.in-Some.outgoing_frame.0 c.in-Some.outgoing_frame.1 c.args.node.now c.loop-outgoing_frame.node c.pop_out.new.self c.args.links.now.items c.loop-outgoing_frame.links.items c.loop-outgoing_frame.invariant c.in-Some.ensures.some
    c.append.new.links.items c.requires.from c.in-Some.ensures.rest c.in_ok-append.ensures
