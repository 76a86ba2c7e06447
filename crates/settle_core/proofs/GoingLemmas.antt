-- Workers go on: what each call leaves of the leg and of the rings.
use Rattle.std.proofs.Common.{◌≡◌, ◌≢◌, ℕ, ◌<◌, Result, Ok, Err, OnOk, OnErr, true, refl, sym, subst, ◌∙◌, ◌==◌, inl, inr, eqb-true}
use Rattle.std.proofs.lemmas.Bool.{cases_Bool, eqb-false}
use Rattle.std.proofs.Math.Logic.{∥∥₁_elim, ∥∥₁_map}
use Rattle.std.proofs.Props.{props}
use Rattle.service_machine.specs.Draining.{is_work, turns_left}
use Rattle.service_machine.specs.States.{State}
use Rattle.service_machine.specs.Steps.{after_changing, after_turning, choice_of, done_log, turn_log}
use Rattle.service_machine.proofs.NodeTurns.{nodes_stop}
use Rattle.svc_graph.specs.declared.definition.Definition.{Definition}
use Rattle.svc_graph.specs.History.{dependencies, meaning_of}
use Rattle.svc_value.specs.declared.value.Value.{Value}
use Rattle.node_core.specs.Legs.{StaysInLeg}
use Rattle.node_core.specs.View.{NodeView, Grows}
use Rattle.node_core.proofs.LegLemmas.{changes_stay, turns_stay}
use Rattle.node_core.proofs.LivesLemmas.{reached_keeps}
use Rattle.settle_core.specs.declared.wired.WiredNode.{WiredNode}
use Rattle.settle_core.specs.declared.worker.Worker.{Worker}
use Rattle.settle_core.specs.Inside.Working.{to_of, from_of, held_of, IsOf, IsWorker}
use Rattle.settle_core.specs.Rings.{SameTo}
use Rattle.settle_core.specs.Workers.{node_of, end_to, end_from, GoesOn}
use Rattle.settle_core.proofs.ReachedLemmas.{reached_stays, stays_same, stays_trans}
use Rattle.settle_core.proofs.RingLemmas.{same_to_refl, same_to_is, same_to_trans, same_from_refl, same_from_is, same_from_trans}
use Rattle.settle_core.proofs.WorkerLemmas.{worker_did, worker_turned, worker_same}

-- ---- workers

pub goes_on_refl : (w : Worker) → GoesOn w w
goes_on_refl w = record { service = refl; leg = stays_same (node_of w) (node_of w) refl; ends = record { to = λ q. same_to_refl (end_to q w); from = λ p. same_from_refl (end_from p w) } }

pub goes_on_trans : (a b c : Worker) → GoesOn a b → GoesOn b c → GoesOn a c
goes_on_trans a b c p q = record {
  service = q.service ∙ p.service;
  leg = stays_trans (node_of a) (node_of b) (node_of c) p.leg q.leg;
  ends = record {
    to = λ k. same_to_trans (end_to k a) (end_to k b) (end_to k c) (p.ends.to k) (q.ends.to k);
    from = λ k. same_from_trans (end_from k a) (end_from k b) (end_from k c) (p.ends.from k) (q.ends.from k);
  };
}

-- where the ends are as they were
pub goes_on_with : (old new : Worker) → new.id ≡ old.id → StaysInLeg (node_of old) (node_of new) → ((q : ℕ) → end_to q new ≡ end_to q old) → ((p : ℕ) → end_from p new ≡ end_from p old) → GoesOn old new
goes_on_with old new id stays to from = record {
  service = id;
  leg = stays;
  ends = record { to = λ q. same_to_is (end_to q old) (end_to q new) (to q); from = λ p. same_from_is (end_from p old) (end_from p new) (from p) };
}

-- the log is of the same service, in the same leg
pub log_stays : (id : ℕ) (old new : NodeView) → StaysInLeg old new → ∥ IsOf id old ∥₁ → ∥ IsOf id new ∥₁
log_stays id old new stays was = ∥∥₁_map was (λ (is : IsOf id old). record {
  opening = is.opening;
  reached = reached_stays old new is.opening stays is.reached;
  id_is = is.id_is;
})

-- ---- answers

module _ {A E : Type 0} where
  pub did_stays : (r : Result A E) (old new : NodeView) → OnOk r (new.state ≡ after_changing dependencies old.state) → OnOk r (Grows old new (done_log dependencies old.state)) → OnErr r (new ≡ old) → StaysInLeg old new
  did_stays (Ok x) old new state grows err = changes_stay old new state grows
  did_stays (Err e) old new state grows err = stays_same old new err

  pub turned_stays : (r : Result A E) (old new : NodeView) → OnOk r (new.state ≡ after_turning meaning_of old.state) → OnOk r (Grows old new (turn_log meaning_of old.state)) → OnErr r (new ≡ old) → StaysInLeg old new
  turned_stays (Ok x) old new state grows err = turns_stay old new state grows
  turned_stays (Err e) old new state grows err = stays_same old new err

  module _ (old new : WiredNode) (was : IsWorker old) (to : (q : ℕ) → to_of new q ≡ to_of old q) (from : (p : ℕ) → from_of new p ≡ from_of old p) (held : (p : ℕ) → held_of new p ≡ held_of old p) where
    pub did_worker : (r : Result A E) → OnOk r (new.node.state ≡ after_changing dependencies old.node.state) → OnOk r (Grows old.node new.node (done_log dependencies old.node.state)) → OnErr r (new.node ≡ old.node) → IsWorker new
    did_worker (Ok x) state grows err = worker_did old new was to from held state grows
    did_worker (Err e) state grows err = worker_same old new was err to from held

    pub turned_worker : (r : Result A E) → OnOk r (new.node.state ≡ after_turning meaning_of old.node.state) → OnOk r (Grows old.node new.node (turn_log meaning_of old.node.state)) → OnErr r (new.node ≡ old.node) → IsWorker new
    turned_worker (Ok x) state grows err = worker_turned old new was to from held state grows
    turned_worker (Err e) state grows err = worker_same old new was err to from held

-- a turn that does something leaves fewer of them
fewer_left : (id : ℕ) (s : NodeView) → ∥ IsOf id s ∥₁ → is_work (choice_of s.state) ≡ true → turns_left (after_turning meaning_of s.state) < turns_left s.state
fewer_left id s log work = ∥∥₁_elim log (search props) (λ (is : IsOf id s).
    let lives = (reached_keeps is.opening s is.reached).0 in (nodes_stop Value Definition dependencies meaning_of is.opening s.state lives.log lives.alive).0 work)

pub turned_fewer : {A E : Type 0} (r : Result A E) (id : ℕ) (old new : NodeView) → ∥ IsOf id old ∥₁ → OnOk r (new.state ≡ after_turning meaning_of old.state) → OnOk r (is_work (choice_of old.state) ≡ true → turns_left new.state < turns_left old.state)
turned_fewer (Ok x) id old new log state = λ work. subst (λ (s : State Value Definition). turns_left s < turns_left old.state) (sym state) (fewer_left id old log work)
turned_fewer (Err e) id old new log state = tt

-- one end to another service changed
pub goes_on_to : (p : ℕ) (old new : Worker) → new.id ≡ old.id → StaysInLeg (node_of old) (node_of new) → SameTo (end_to p old) (end_to p new) → ((q : ℕ) → q ≢ p → end_to q new ≡ end_to q old) → ((k : ℕ) → end_from k new ≡ end_from k old) → GoesOn old new
goes_on_to p old new id stays same others from = record {
  service = id;
  leg = stays;
  ends = record {
    to = λ q. elim (cases_Bool (q == p)) [
      | inl t ↦ (let P : ℕ → Type 0 = λ j. SameTo (end_to j old) (end_to j new) in subst P (sym (eqb-true q p t)) same)
      | inr f ↦ same_to_is (end_to q old) (end_to q new) (others q (eqb-false q p f))
    ];
    from = λ k. same_from_is (end_from k old) (end_from k new) (from k);
  };
}
