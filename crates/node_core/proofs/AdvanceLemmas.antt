-- A slot whose next value becomes its head.
use Rattle.std.proofs.Common.{◌≡◌, ℕ, zero, suc, ◌<◌, ◌≤◌, ◌+◌, ◌==◌, Bool, true, false, cond, List, [], ◌∷◌, length, take, slice_index_or, slice_set, refl, sym, ap, subst, ◌∙◌, arith, inl, inr, eqb-true, eq-eqb}
use Rattle.std.proofs.lemmas.Bool.{cond-true, eqb-false}
use Rattle.std.proofs.lemmas.List.{get_or-set_other, length-set}
use Rattle.std.proofs.lemmas.Grind.{get_or-set_at}
use Rattle.propagation.specs.Lists.{AreDistinct, Has}
use Rattle.propagation.specs.Stamps.{Stamps}
use Rattle.propagation.specs.Logs.{Emission}
use Rattle.service_machine.specs.States.{Slot, State, slot_at, with_slot, advanced, advance_with, has_next, front_is, number_at_head}
use Rattle.service_machine.specs.Turning.{Choice, choice, inputs, slots_of}
use Rattle.service_machine.specs.Turning.Choice.{Advance}
use Rattle.service_machine.specs.Steps.{choice_of}
use Rattle.service_machine.proofs.Table.{Chosen, choice-is}
use Rattle.service_machine.proofs.Table.Chosen.{to_advance, to_compute, to_empty, to_lag, to_still}
use Rattle.stamp_match.specs.Named.{sender_at}
use Rattle.node_core.specs.declared.entry.Entry.{Entry}
use Rattle.node_core.specs.View.{senders, AreInOrder, AreCounted}
use Rattle.node_core.proofs.SlotLemmas.{slot_of_place, has_sender}
use Rattle.node_core.proofs.InputLemmas.{inputs_first}

-- ---- by place

pub sender_of_place : {V : Type 0} (slots : List (Slot V)) (i : ℕ) (s : Slot V) → i < length slots → s ≡ slice_index_or slots i s → sender_at slots i ≡ s.sender
sender_of_place [] i s lt is = absurd (omega arith)
sender_of_place {V} (x ∷ rest) zero s lt is = ap (λ (z : Slot V). z.sender) (sym is)
sender_of_place (x ∷ rest) (suc i) s lt is = sender_of_place rest i s (omega arith) is

pub sender_of_first : {V : Type 0} (slots : List (Slot V)) (n i : ℕ) → i < n → sender_at (take n slots) i ≡ sender_at slots i
sender_of_first [] zero i lt = refl
sender_of_first [] (suc n) i lt = refl
sender_of_first (x ∷ rest) zero i lt = absurd (omega (arith, lt))
sender_of_first (x ∷ rest) (suc n) zero lt = refl
sender_of_first (x ∷ rest) (suc n) (suc i) lt = sender_of_first rest n i (omega (arith, lt))

-- the slot at the place is that of its sender
pub at_place : {V : Type 0} (slots : List (Slot V)) (i : ℕ) (s : Slot V) → AreDistinct (senders slots) → i < length slots → s ≡ slice_index_or slots i s → slot_at slots (sender_at slots i) ≡ s
at_place slots i s apart lt is = ap (λ p. slot_at slots p) (sender_of_place slots i s lt is) ∙ slot_of_place slots i s apart lt is

-- a slot in the place of another one of its sender
pub set_place : {V : Type 0} (slots : List (Slot V)) (i : ℕ) (s new : Slot V) → AreDistinct (senders slots) → i < length slots → s ≡ slice_index_or slots i s → new.sender ≡ s.sender → slice_set slots i new ≡ with_slot new slots
set_place [] i s new apart lt is same = absurd (omega arith)
set_place {V} (x ∷ rest) zero s new apart lt is same =
    sym (cond-true (x.sender == new.sender) (new ∷ rest) (x ∷ with_slot new rest) (eq-eqb x.sender new.sender (ap (λ (z : Slot V). z.sender) (sym is) ∙ sym same)))
set_place {V} (x ∷ rest) (suc i) s new apart lt is same = go (x.sender == new.sender) refl (set_place rest i s new apart.1 (omega arith) is same)
  where
    go : (b : Bool) → (x.sender == new.sender) ≡ b → slice_set rest i new ≡ with_slot new rest → x ∷ slice_set rest i new ≡ cond b (new ∷ rest) (x ∷ with_slot new rest)
    go true e h = absurd (apart.0 (let P : ℕ → Type 0 = λ p. Has (senders rest) p in subst P (sym (eqb-true x.sender new.sender e ∙ same)) (has_sender rest i s (omega arith) is)))
    go false e h = ap (λ zs. x ∷ zs) h

pub set_senders : {V : Type 0} (slots : List (Slot V)) (i : ℕ) (s new : Slot V) → s ≡ slice_index_or slots i s → i < length slots → new.sender ≡ s.sender → senders (slice_set slots i new) ≡ senders slots
set_senders [] i s new is lt same = refl
set_senders {V} (x ∷ rest) zero s new is lt same = ap (λ p. p ∷ senders rest) (same ∙ ap (λ (z : Slot V). z.sender) is)
set_senders (x ∷ rest) (suc i) s new is lt same = ap (λ ps. x.sender ∷ ps) (set_senders rest i s new is (omega arith) same)

take_senders : {V : Type 0} (n : ℕ) (slots : List (Slot V)) → senders (take n slots) ≡ take n (senders slots)
take_senders zero slots = refl
take_senders (suc n) [] = refl
take_senders (suc n) (x ∷ rest) = ap (λ ps. x.sender ∷ ps) (take_senders n rest)

pub in_order_set : {V : Type 0} (edges : List (ℕ × ℕ)) (slots : List (Slot V)) (i : ℕ) (s new : Slot V) → s ≡ slice_index_or slots i s → i < length slots → new.sender ≡ s.sender → AreInOrder edges slots → AreInOrder edges (slice_set slots i new)
in_order_set edges slots i s new is lt same was =
    record {
      apart = subst AreDistinct (sym (set_senders slots i s new is lt same)) was.apart;
      first = take_senders (length edges) (slice_set slots i new) ∙ ap (λ ps. take (length edges) ps) (set_senders slots i s new is lt same) ∙ sym (take_senders (length edges) slots) ∙ was.first;
    }

-- ---- the step

-- what advances keeps its sender
pub advanced_sender : {V : Type 0} (s : Slot V) → (advanced s).sender ≡ s.sender
advanced_sender {V} s = go s.queue
  where
    go : (q : List (ℕ × Emission V)) → (advance_with s q).sender ≡ s.sender
    go [] = refl
    go (x ∷ q) = refl

-- and its number and what waits, together
pub advanced_count : {V : Type 0} (s : Slot V) → has_next s ≡ true → number_at_head (advanced s).head + length (advanced s).queue ≡ number_at_head s.head + length s.queue
advanced_count {V} s next = go s.queue refl next
  where
    go : (q : List (ℕ × Emission V)) → s.queue ≡ q → front_is s.edge q ≡ true → number_at_head (advance_with s q).head + length (advance_with s q).queue ≡ number_at_head s.head + length q
    go [] e h = absurd (cc h)
    go (x ∷ q) e h = omega arith

-- a next value is one that waits
pub next_waits : {V : Type 0} (s : Slot V) → has_next s ≡ true → 0 < length s.queue
next_waits {V} s next = go s.queue next
  where
    go : (q : List (ℕ × Emission V)) → front_is s.edge q ≡ true → 0 < length q
    go [] h = absurd (cc h)
    go (x ∷ q) h = omega arith

pub counted_set : {V : Type 0} (entries : List Entry) (slots : List (Slot V)) (i : ℕ) (s new : Slot V) → i < length slots → s ≡ slice_index_or slots i s →
    number_at_head new.head + length new.queue ≤ number_at_head s.head + length s.queue → AreCounted entries slots → AreCounted entries (slice_set slots i new)
counted_set {V} entries slots i s new lt is le was k d less = go (k == i) refl
  where
    here : number_at_head s.head + length s.queue ≤ length entries
    here = let P : Slot V → Type 0 = λ z. number_at_head z.head + length z.queue ≤ length entries in subst P (sym is) (was i s lt)

    within : k < length slots
    within = let len : length (slice_set slots i new) ≡ length slots = length-set slots i new in omega (arith, less, len)

    go : (b : Bool) → (k == i) ≡ b → number_at_head (slice_index_or (slice_set slots i new) k d).head + length (slice_index_or (slice_set slots i new) k d).queue ≤ length entries
    go true e = let P : Slot V → Type 0 = λ z. number_at_head z.head + length z.queue ≤ length entries in subst P (sym (get_or-set_at slots i k new d (eqb-true k i e) lt)) (omega (arith, le, here))
    go false e = let P : Slot V → Type 0 = λ z. number_at_head z.head + length z.queue ≤ length entries in subst P (sym (get_or-set_other slots i k new d (eqb-false k i e))) (was k d within)

-- ---- what is chosen has a next value

next_chosen : {V : Type 0} (slots : List (Slot V)) (floor : Stamps) (due : Bool) (c : Choice) (p : ℕ) → Chosen slots floor due c → c ≡ Advance p → (s : Slot V) × Has slots s × (has_next s ≡ true) × (s.sender ≡ p)
next_chosen slots floor due c p (to_advance s has next) e = (s, has, next, cc e)
next_chosen slots floor due c p (to_compute a b d) e = absurd (cc e)
next_chosen slots floor due c p (to_empty s a b d) e = absurd (cc e)
next_chosen slots floor due c p (to_lag s key a b d) e = absurd (cc e)
next_chosen slots floor due c p (to_still a b d f) e = absurd (cc e)

slot_of_has : {V : Type 0} (slots : List (Slot V)) (s : Slot V) → AreDistinct (senders slots) → Has slots s → slot_at slots s.sender ≡ s
slot_of_has [] s apart has = absurd has
slot_of_has {V} (x ∷ rest) s apart (inl e) = cond-true (x.sender == s.sender) x (slot_at rest s.sender) (eq-eqb x.sender s.sender (ap (λ (z : Slot V). z.sender) e)) ∙ e
slot_of_has {V} (x ∷ rest) s apart (inr h) = go (x.sender == s.sender) refl (slot_of_has rest s apart.1 h)
  where
    among : (xs : List (Slot V)) → Has xs s → Has (senders xs) s.sender
    among [] has = absurd has
    among (y ∷ ys) (inl e) = inl (ap (λ (z : Slot V). z.sender) e)
    among (y ∷ ys) (inr k) = inr (among ys k)

    go : (b : Bool) → (x.sender == s.sender) ≡ b → slot_at rest s.sender ≡ s → cond b x (slot_at rest s.sender) ≡ s
    go true e k = absurd (apart.0 (let P : ℕ → Type 0 = λ p. Has (senders rest) p in subst P (sym (eqb-true x.sender s.sender e)) (among rest h)))
    go false e k = k

has_first : {V : Type 0} (n : ℕ) (slots : List (Slot V)) (s : Slot V) → Has (take n slots) s → Has slots s
has_first zero slots s has = absurd has
has_first (suc n) [] s has = absurd has
has_first (suc n) (x ∷ rest) s (inl e) = inl e
has_first (suc n) (x ∷ rest) s (inr h) = inr (has_first n rest s h)

pub chosen_next : {V : Type 0} (slots first : List (Slot V)) (n : ℕ) (floor : Stamps) (due : Bool) (p : ℕ) → AreDistinct (senders slots) → first ≡ take n slots → choice first floor due ≡ Advance p → has_next (slot_at slots p) ≡ true
chosen_next {V} slots first n floor due p apart is e =
    let found = next_chosen first floor due (choice first floor due) p (choice-is first floor due) e in
    let here : Has (take n slots) found.0 = (let P : List (Slot V) → Type 0 = λ xs. Has xs found.0 in subst P is found.1) in
    ap (λ (z : Slot V). has_next z) (ap (λ q. slot_at slots q) (sym found.3) ∙ slot_of_has slots found.0 apart (has_first n slots found.0 here)) ∙ found.2

-- the number of a head with a next value fits
pub number_small : {V : Type 0} (entries : List Entry) (slots : List (Slot V)) (i : ℕ) (s : Slot V) → i < length slots → s ≡ slice_index_or slots i s → has_next s ≡ true → length entries < 18446744073709551616 →
    AreCounted entries slots → number_at_head s.head < 18446744073709551615
number_small {V} entries slots i s lt is next small was =
    let here : number_at_head s.head + length s.queue ≤ length entries = (let P : Slot V → Type 0 = λ z. number_at_head z.head + length z.queue ≤ length entries in subst P (sym is) (was i s lt)) in
    omega (arith, here, small, next_waits s next)

-- what is chosen names the sender of a place
pub chosen_at : {V D : Type 0} (s : State V D) (first xs : List (Slot V)) (place : ℕ) (C : ℕ → Choice) → first ≡ slots_of s.edges xs → first ≡ take (length s.edges) xs → xs ≡ s.slots → length first ≡ length s.edges →
    place < length first → C (sender_at first place) ≡ choice first s.floor s.due → C (sender_at s.slots place) ≡ choice_of s
chosen_at {V} s first xs place C of front all len lt table =
    ap C (sym (ap (λ (zs : List (Slot V)). sender_at zs place) front ∙ sender_of_first xs (length s.edges) place (omega (arith, len, lt)) ∙ ap (λ (zs : List (Slot V)). sender_at zs place) all))
    ∙ table ∙ ap (λ (zs : List (Slot V)). choice zs s.floor s.due) (of ∙ ap (λ (zs : List (Slot V)). slots_of s.edges zs) all)

-- and it has a next value where it advances
pub chosen_has_next : {V D : Type 0} (s : State V D) (p : ℕ) → AreInOrder s.edges s.slots → Advance p ≡ choice_of s → has_next (slot_at s.slots p) ≡ true
chosen_has_next s p order e = chosen_next s.slots (inputs s) (length s.edges) s.floor s.due p order.apart (sym (inputs_first s.edges s.slots order)) (sym e)
