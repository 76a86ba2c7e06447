-- A node at rest.
use Rattle.std.proofs.Common.{◌≡◌, ℕ, Bool, true, false, List, [], ◌∷◌, length, refl, arith}
use Rattle.std.specs.Bool.{IsTrue}
use Rattle.service_machine.specs.States.{slot_at}
use Rattle.service_machine.specs.Openings.{AtRest}
use Rattle.node_core.specs.View.{NodeView}

-- a list of no length is empty
pub length_zero : {A : Type 0} (xs : List A) → length xs ≡ 0 → xs ≡ []
length_zero [] e = refl
length_zero (x ∷ xs) e = absurd (omega (arith, e))

-- the answer is whether the service is at rest and nothing waits to be handed over
abbrev pub Answers : Bool → NodeView → Type 0
Answers b s = (IsTrue b → AtRest s.state × (s.outbox ≡ [])) × (AtRest s.state × (s.outbox ≡ []) → IsTrue b)

pub not_due : (s : NodeView) → s.state.due ≡ true → Answers false s
not_due s due = (λ t. absurd (cc t), λ rest. let calm = rest.0.calm in absurd (cc (due, calm)))

pub not_done : (s : NodeView) → (s.state.left ≡ [] → ⊥) → Answers false s
not_done s some = (λ t. absurd (cc t), λ rest. absurd (some rest.0.all_done))

pub not_handed : (s : NodeView) → (s.outbox ≡ [] → ⊥) → Answers false s
not_handed s some = (λ t. absurd (cc t), λ rest. absurd (some rest.1))

pub idle : (s : NodeView) (b : Bool) → s.state.due ≡ false → s.state.left ≡ [] → s.outbox ≡ [] → (IsTrue b → (p : ℕ) → (slot_at s.state.slots p).queue ≡ []) →
    (((p : ℕ) → (slot_at s.state.slots p).queue ≡ []) → IsTrue b) → Answers b s
idle s b calm done handed there back = (λ t. (record { calm = calm; all_done = done; none_waits = there t }, handed), λ rest. back rest.0.none_waits)
