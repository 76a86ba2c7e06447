use Rattle.settle_core.proofs.HandingLemmas.{handing_next}
use Rattle.settle_core.proofs.acting.hand_over.Goals as goal

pub loop-outgoing_frame-preserved : goal.loop-outgoing_frame-preserved
loop-outgoing_frame-preserved c =
    handing_next c.args.from c.in-Some.outgoing_frame.0 c.in-Some.outgoing_frame.1 c.args.node.now c.loop-outgoing_frame.node c.pop_out.new.self c.args.links.now.items c.loop-outgoing_frame.links.items c.push.new.links.items
    c.requires.from c.loop-outgoing_frame.invariant c.in-Some.ensures.some c.in-Some.ensures.rest c.push.ensures
