use Rattle.std.proofs.Common.{ℕ}
use Rattle.propagation.specs.Logs.{Emission}
use Rattle.service_machine.specs.States.{is_live}
use Rattle.svc_value.specs.declared.value.Value.{Value}
use Rattle.pred_queue.specs.Told.{epoch_told}
use Rattle.pred_queue.proofs.EpochsLemmas.{queue-filter}
use Rattle.pred_queue.proofs.slot.Slot.cut.Goals as goal

pub invariant_of-self : goal.invariant_of-self
invariant_of-self c =
    queue-filter (λ (x : ℕ × Emission Value). is_live c.args.edge c.args.clock x.0) (epoch_told c.self.inside.announced) c.self.inside.queue.items c.cut_queue.new.queue.items c.cut_queue.ensures c.self.invariant
