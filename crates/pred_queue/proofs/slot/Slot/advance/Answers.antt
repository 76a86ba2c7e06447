use Rattle.pred_queue.specs.Told.{epoch_told}
use Rattle.pred_queue.proofs.EpochsLemmas.{queue-rest}
use Rattle.pred_queue.proofs.slot.Slot.advance.Goals as goal

pub invariant_of-self : goal.invariant_of-self
invariant_of-self g c = queue-rest (epoch_told c.self.inside.announced) c.self.inside.queue.items c.pop_front.new.self.items c.pop_front.result c.pop_front.ensures.items c.self.invariant

pub invariant_of-self-in-Some-replace-2 : goal.invariant_of-self-in-Some-replace-2
invariant_of-self-in-Some-replace-2 g c = queue-rest (epoch_told c.self.inside.announced) c.self.inside.queue.items c.pop_front.new.self.items c.pop_front.result c.pop_front.ensures.items c.self.invariant

pub invariant_of-self-in_default-replace : goal.invariant_of-self-in_default-replace
invariant_of-self-in_default-replace g c = queue-rest (epoch_told c.self.inside.announced) c.self.inside.queue.items c.pop_front.new.self.items c.pop_front.result c.pop_front.ensures.items c.self.invariant
