-- Handing over, peer after peer.
use Rattle.std.proofs.Common.{◌≡◌, ℕ, List, [], ◌∷◌, ◌++◌, ◌==◌, ◌∙◌, refl, sym, subst, inl, inr, eqb-true}
use Rattle.std.proofs.lemmas.Bool.{cases_Bool, eqb-false}
use Rattle.propagation.specs.Lists.{Has}
use Rattle.propagation.proofs.Lists.{Has-append_cases}
use Rattle.settle_core.specs.Inside.Handing.{IsHandedTo, OthersKept}
use Rattle.settle_core.specs.Workers.{end_to, HasHandedOver}
use Rattle.settle_core.specs.declared.worker.Worker.{Worker}
use Rattle.settle_core.proofs.PeerLemmas.{ringed_all}
use Rattle.settle_core.proofs.WorkerLemmas.{left_there}

-- one peer more
pub handed_more : (old new : Worker) (ps : List ℕ) (k : ℕ) → ((q : ℕ) → Has ps q → IsHandedTo q old) → OthersKept k old new → IsHandedTo k new → (q : ℕ) → Has (ps ++ k ∷ []) q → IsHandedTo q new
handed_more old new ps k was others here q has =
    elim (cases_Bool (q == k)) [
      | inl t ↦ subst (λ j. IsHandedTo j new) (sym (eqb-true q k t)) here
      | inr f ↦ (let ne = eqb-false q k f in λ left.
          let before : Has ps q = elim (Has-append_cases ps (k ∷ []) q has) [ inl h ↦ h | inr h ↦ elim h [ inl e ↦ absurd (ne (sym e)) | inr none ↦ absurd none ] ] in
          let w = was q before (λ none. left (others.frames q ne ∙ none)) in (w.0, others.ends q ne ∙ w.1, w.2))
    ]

-- frames wait for peers alone
pub handed_all : (w : Worker) (ps : List ℕ) → ps ≡ w.peers.items → ((q : ℕ) → Has ps q → IsHandedTo q w) → HasHandedOver w
handed_all w ps all was q left =
    let some = left_there q w.wired (end_to q w) w.wired.node.outbox w.kept refl left in
    was q (subst (λ (xs : List ℕ). Has xs q) (sym (all ∙ w.ringed)) (ringed_all w.wired.to.items q some)) left
