-- The slot of a sender, by its place.
use Rattle.std.proofs.Common.{◌≡◌, ℕ, zero, suc, ◌<◌, ◌≤◌, ◌+◌, ◌==◌, Bool, true, false, cond, ltb, not, List, [], ◌∷◌, ◌++◌, length, slice_index_or, slice_set, Some, None, refl, sym, ap, subst, ◌∙◌, arith, inl, inr, eqb-true, ltb-false}
use Rattle.std.proofs.lemmas.Bool.{cond-true, cond-false, eqb-false}
use Rattle.std.proofs.lemmas.List.Quantifiers.{position-Some}
use Rattle.std.specs.List.{prefix_len}
use Rattle.propagation.specs.Lists.{Has}
use Rattle.service_machine.specs.States.{Slot, slot_at, with_slot, empty_slot}
use Rattle.node_core.specs.Receiving.{place_in}
use Rattle.node_core.specs.View.{senders}

-- the slot of a sender is its own
pub slot_sender : {V : Type 0} (slots : List (Slot V)) (p : ℕ) → (slot_at slots p).sender ≡ p
slot_sender [] p = refl
slot_sender {V} (x ∷ rest) p = go (x.sender == p) refl (slot_sender rest p)
  where
    go : (b : Bool) → (x.sender == p) ≡ b → (slot_at rest p).sender ≡ p → (cond b x (slot_at rest p)).sender ≡ p
    go true e h = eqb-true x.sender p e
    go false e h = h

-- ---- a slot that is there

slot_here : {V : Type 0} (slots : List (Slot V)) (p i : ℕ) (s : Slot V) → i < length slots → s ≡ slice_index_or slots i s → (s.sender == p) ≡ true →
    ((k : ℕ) → k < i → ((slice_index_or slots k s).sender == p) ≡ false) → slot_at slots p ≡ s
slot_here [] p i s lt is own none = absurd (omega arith)
slot_here {V} (x ∷ rest) p zero s lt is own none = cond-true (x.sender == p) x (slot_at rest p) (ap (λ (z : Slot V). z.sender == p) (sym is) ∙ own) ∙ sym is
slot_here (x ∷ rest) p (suc i) s lt is own none =
    cond-false (x.sender == p) x (slot_at rest p) (none 0 (omega arith)) ∙ slot_here rest p i s (omega arith) is own (λ k h. none (suc k) (omega arith))

set_here : {V : Type 0} (slots : List (Slot V)) (p i : ℕ) (s new : Slot V) → i < length slots → s ≡ slice_index_or slots i s → (s.sender == p) ≡ true →
    ((k : ℕ) → k < i → ((slice_index_or slots k s).sender == p) ≡ false) → new.sender ≡ p → slice_set slots i new ≡ with_slot new slots
set_here [] p i s new lt is own none same = absurd (omega arith)
set_here {V} (x ∷ rest) p zero s new lt is own none same =
    sym (cond-true (x.sender == new.sender) (new ∷ rest) (x ∷ with_slot new rest) (ap (λ q. x.sender == q) same ∙ ap (λ (z : Slot V). z.sender == p) (sym is) ∙ own))
set_here {V} (x ∷ rest) p (suc i) s new lt is own none same =
    ap (λ zs. x ∷ zs) (set_here rest p i s new (omega arith) is own (λ k h. none (suc k) (omega arith)) same)
    ∙ sym (cond-false (x.sender == new.sender) (new ∷ rest) (x ∷ with_slot new rest) (ap (λ q. x.sender == q) same ∙ none 0 (omega arith)))

-- the place of a sender is one of the slots
pub place_within : {V : Type 0} (slots : List (Slot V)) (p i : ℕ) (s : Slot V) → place_in slots p ≡ Some i → i < length slots
place_within {V} slots p i s at = (position-Some (λ (z : Slot V). z.sender == p) slots i s at).0

-- the slot there is that of the sender
pub place_slot : {V : Type 0} (slots : List (Slot V)) (p i : ℕ) (s : Slot V) → place_in slots p ≡ Some i → s ≡ slice_index_or slots i s → slot_at slots p ≡ s
place_slot {V} slots p i s at is =
    let found = position-Some (λ (z : Slot V). z.sender == p) slots i s at in
    slot_here slots p i s found.0 is (ap (λ (z : Slot V). z.sender == p) is ∙ found.1) found.2

-- and one of the sender in its place is the sender's then
pub place_set : {V : Type 0} (slots : List (Slot V)) (p i : ℕ) (s new : Slot V) → place_in slots p ≡ Some i → s ≡ slice_index_or slots i s → new.sender ≡ p → slice_set slots i new ≡ with_slot new slots
place_set {V} slots p i s new at is same =
    let found = position-Some (λ (z : Slot V). z.sender == p) slots i s at in
    set_here slots p i s new found.0 is (ap (λ (z : Slot V). z.sender == p) is ∙ found.1) found.2 same

-- ---- a slot that is not there

none_here : {V : Type 0} (slots : List (Slot V)) (p : ℕ) → length slots ≤ prefix_len (λ (z : Slot V). not (z.sender == p)) slots → Has (senders slots) p → ⊥
none_here [] p h has = absurd has
none_here {V} (x ∷ rest) p h has = go (x.sender == p) refl h (λ less more. none_here rest p less more) has
  where
    go : (b : Bool) → (x.sender == p) ≡ b → suc (length rest) ≤ cond (not b) (1 + prefix_len (λ (z : Slot V). not (z.sender == p)) rest) 0 →
        (length rest ≤ prefix_len (λ (z : Slot V). not (z.sender == p)) rest → Has (senders rest) p → ⊥) → Has (senders (x ∷ rest)) p → ⊥
    go true e less rec has = absurd (omega (arith, less))
    go false e less rec (inl same) = eqb-false x.sender p e same
    go false e less rec (inr more) = rec (omega (arith, less)) more

-- without a place the sender is none of the slots'
pub no_sender : {V : Type 0} (slots : List (Slot V)) (p : ℕ) → place_in slots p ≡ None → Has (senders slots) p → ⊥
no_sender {V} slots p is = go (ltb (prefix_len (λ (z : Slot V). not (z.sender == p)) slots) (length slots)) refl is
  where
    go : (b : Bool) → ltb (prefix_len (λ (z : Slot V). not (z.sender == p)) slots) (length slots) ≡ b →
        cond b (Some (prefix_len (λ (z : Slot V). not (z.sender == p)) slots)) None ≡ None → Has (senders slots) p → ⊥
    go true t gone = absurd (cc gone)
    go false t gone = none_here slots p (ltb-false _ _ t)

absent_slot : {V : Type 0} (slots : List (Slot V)) (p : ℕ) → (Has (senders slots) p → ⊥) → slot_at slots p ≡ empty_slot p
absent_slot [] p none = refl
absent_slot {V} (x ∷ rest) p none = go (x.sender == p) refl (absent_slot rest p (λ h. none (inr h)))
  where
    go : (b : Bool) → (x.sender == p) ≡ b → slot_at rest p ≡ empty_slot p → cond b x (slot_at rest p) ≡ empty_slot p
    go true e h = absurd (none (inl (eqb-true x.sender p e)))
    go false e h = h

absent_set : {V : Type 0} (slots : List (Slot V)) (new : Slot V) → (Has (senders slots) new.sender → ⊥) → slots ++ new ∷ [] ≡ with_slot new slots
absent_set [] new none = refl
absent_set {V} (x ∷ rest) new none = go (x.sender == new.sender) refl (absent_set rest new (λ h. none (inr h)))
  where
    go : (b : Bool) → (x.sender == new.sender) ≡ b → rest ++ new ∷ [] ≡ with_slot new rest → x ∷ rest ++ new ∷ [] ≡ cond b (new ∷ rest) (x ∷ with_slot new rest)
    go true e h = absurd (none (inl (eqb-true x.sender new.sender e)))
    go false e h = ap (λ zs. x ∷ zs) h

-- its slot is empty
pub no_place_slot : {V : Type 0} (slots : List (Slot V)) (p : ℕ) → place_in slots p ≡ None → slot_at slots p ≡ empty_slot p
no_place_slot slots p is = absent_slot slots p (no_sender slots p is)

-- and a new one stands at the end
pub no_place_set : {V : Type 0} (slots : List (Slot V)) (p : ℕ) (new : Slot V) → place_in slots p ≡ None → new.sender ≡ p → slots ++ new ∷ [] ≡ with_slot new slots
no_place_set {V} slots p new is same = absent_set slots new (let P : ℕ → Type 0 = λ q. Has (senders slots) q → ⊥ in subst P (sym same) (no_sender slots p is))
