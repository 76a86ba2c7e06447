use Rattle.std.proofs.Common.{◌≡◌, ◌<◌, length, refl, sym, arith, ◌∙◌}
use Rattle.node_core.proofs.LegLemmas.{takes_stay}
use Rattle.settle_core.proofs.GoingLemmas.{goes_on_with, log_stays}
use Rattle.settle_core.proofs.RingLemmas.{found_at, set_at, set_off}
use Rattle.settle_core.proofs.WorkerLemmas.{worker_took}
use Rattle.settle_core.proofs.worker.Worker.take_held.Goals as goal

pub invariant_of-self-in-Ok : goal.invariant_of-self-in-Ok
invariant_of-self-in-Ok c =
    let w = c.args.self.now.wired in
    let p = c.args.sender in
    let i = c.from-place.result in
    let at : i ≡ p = c.from-place.ensures ∙ c.sender.view_is in
    let in_held : i < length w.held.items = omega (arith, at, c.requires, w.held_wide) in
    record {
      log = log_stays c.args.self.now.id w.node c.take-2.new.self (takes_stay p c.in-Some.bytes w.node c.take-2.new.self c.in-Ok.ensures.ok) c.args.self.now.log;
      kept = worker_took p c.in-Some.bytes w _ c.args.self.now.kept (λ q. refl) (λ k. refl)
          (found_at w.held.items i p at in_held c.index_mut.result.now c.index_mut.ensures.value ∙ sym c.take.ensures.value ∙ c.in-Some.is)
          (set_at w.held.items i p at in_held c.take.new.self ∙ c.take.ensures.after) (λ k ne. set_off w.held.items i p at in_held c.take.new.self k ne) c.in-Ok.ensures.ok c.in-Ok.ensures.took;
      ringed = c.args.self.now.ringed;
    }

pub returns-in-Ok : goal.returns-in-Ok
returns-in-Ok c =
    record { goes_on = goes_on_with c.args.self.now _ refl (takes_stay c.args.sender c.in-Some.bytes c.args.self.now.wired.node c.take-2.new.self c.in-Ok.ensures.ok) (λ q. refl) (λ p. refl) }
