use Rattle.std.proofs.Common.{◌≡◌, ◌++◌, ◌∷◌, [], ℕ, List, Option, Some, sym, ap, subst, ◌∙◌}
use Rattle.propagation.specs.Logs.{Emission}
use Rattle.svc_value.specs.declared.value.Value.{Value}
use Rattle.wire_frame.specs.Frames.{pairs}
use Rattle.pred_queue.specs.Told.{Told, epoch_told}
use Rattle.pred_queue.specs.Epochs.{IsQueue}
use Rattle.pred_queue.proofs.ToldLemmas.{put-epoch}
use Rattle.pred_queue.proofs.EpochsLemmas.{queue-more}
use Rattle.pred_queue.proofs.slot.Slot.put_lent.Goals as goal

pub invariant_of-self-in-Ok-next_stamps : goal.invariant_of-self-in-Ok-next_stamps
invariant_of-self-in-Ok-next_stamps g c =
    let told = c.in-Some.announced in
    let before : IsQueue (Some told.epoch) c.self.inside.queue.items = subst (λ (o : Option Told). IsQueue (epoch_told o) c.self.inside.queue.items) c.in-Some.is c.self.invariant in
    let now : told.epoch ≡ c.args.epoch = put-epoch told.epoch c.args.epoch told.keys told.carried (pairs (g.L.ClocksRef.named c.args.clocks.now)) (sym c.in_default-check.ensures.exactly) in
    let after : c.next_stamps.new.announced.epoch ≡ c.args.epoch = ap (λ (t : Told). t.epoch) c.in-Ok-next_stamps.ensures.ok ∙ now in
    let come : ℕ × Emission Value = (c.args.epoch, record { value = c.args.value; stamps = c.in-Ok-next_stamps.stamps }) in
    let more : c.push_back_reserved.new.self.items ≡ c.self.inside.queue.items ++ come ∷ [] =
    c.push_back_reserved.ensures.items ∙ ap (λ (queue : List (ℕ × Emission Value)). queue ++ come ∷ []) c.in-Ok-next_stamps.ensures.same in
    subst (λ n. IsQueue (Some n) c.push_back_reserved.new.self.items) (sym after)
    (queue-more c.args.epoch c.self.inside.queue.items c.push_back_reserved.new.self.items come.1 more (subst (λ n. IsQueue (Some n) c.self.inside.queue.items) now before))
