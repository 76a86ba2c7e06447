use Rattle.service_machine.specs.Refusing.{refuse_put}
use Rattle.service_machine.specs.States.{slot_at}
use Rattle.wire_frame.specs.Frames.{pairs}
use Rattle.node_core.proofs.receiving.receive_value.Goals as goal

pub returns-in-Err-clause-refused : goal.returns-in-Err-clause-refused
returns-in-Err-clause-refused c =
    c.in-Err.ensures.refused (refuse_put (slot_at c.args.slots.now.items c.args.sender).announced (slot_at c.args.slots.now.items c.args.sender).carried c.args.delta.epoch (pairs c.args.delta.clocks))
