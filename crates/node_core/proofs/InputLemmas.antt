-- The slots of the dependencies stand first.
use Rattle.std.proofs.Common.{◌≡◌, ℕ, suc, ◌<◌, ◌≤◌, List, [], ◌∷◌, length, take, slice_index_or, refl, sym, ap, ◌∙◌, arith, min}
use Rattle.std.proofs.lemmas.List.{length-take}
use Rattle.service_machine.specs.States.{Slot, slot_at}
use Rattle.service_machine.specs.Turning.{slots_of}
use Rattle.service_machine.specs.Steps.{targets}
use Rattle.node_core.specs.View.{senders, AreInOrder}
use Rattle.node_core.proofs.SlotLemmas.{slot_of_place}

first_slots_of : {V : Type 0} (edges : List (ℕ × ℕ)) (slots all : List (Slot V)) → ((k : ℕ) (s : Slot V) → k < length slots → s ≡ slice_index_or slots k s → slot_at all s.sender ≡ s) →
    senders (take (length edges) slots) ≡ targets edges → slots_of edges all ≡ take (length edges) slots
first_slots_of [] slots all each is = refl
first_slots_of (e ∷ edges) [] all each is = absurd (cc is)
first_slots_of {V} (e ∷ edges) (s ∷ slots) all each is =
    let here : s.sender ≡ e.0 = cc is in
    let rest : senders (take (length edges) slots) ≡ targets edges = cc is in
    (λ i. (sym (ap (λ p. slot_at all p) here) ∙ each 0 s (omega arith) refl) i ∷ first_slots_of edges slots all (λ k x lt at. each (suc k) x (omega arith) at) rest i)

pub inputs_first : {V : Type 0} (edges : List (ℕ × ℕ)) (slots : List (Slot V)) → AreInOrder edges slots → take (length edges) slots ≡ slots_of edges slots
inputs_first edges slots order = sym (first_slots_of edges slots slots (λ k s lt is. slot_of_place slots k s order.apart lt is) order.first)

length_targets : (edges : List (ℕ × ℕ)) → length (targets edges) ≡ length edges
length_targets [] = refl
length_targets (e ∷ edges) = ap (λ n. suc n) (length_targets edges)

length_senders : {V : Type 0} (slots : List (Slot V)) → length (senders slots) ≡ length slots
length_senders [] = refl
length_senders (s ∷ slots) = ap (λ n. suc n) (length_senders slots)

pub inputs_within : {V : Type 0} (edges : List (ℕ × ℕ)) (slots : List (Slot V)) → AreInOrder edges slots → length edges ≤ length slots
inputs_within edges slots order =
    let all : length (take (length edges) slots) ≡ length edges = sym (length_senders (take (length edges) slots)) ∙ ap (λ (ps : List ℕ). length ps) order.first ∙ length_targets edges in
    let least : length (take (length edges) slots) ≡ min (length edges) (length slots) = length-take (length edges) slots in
    omega (arith, all, least)
