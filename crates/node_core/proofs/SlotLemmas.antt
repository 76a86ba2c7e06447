-- Slots by their senders and by their places.
use Rattle.std.proofs.Common.{◌≡◌, ℕ, zero, suc, ◌+◌, ◌<◌, ◌≤◌, ◌==◌, ◌++◌, Bool, true, false, cond, List, [], ◌∷◌, length, take, drop, slice_index_or, slice_set, refl, sym, ap, subst, ◌∙◌, arith, eqb-true, inl, inr, eq-eqb, Option, Some, None}
use Rattle.node_core.specs.declared.entry.Entry.{Entry}
use Rattle.std.proofs.lemmas.Bool.{cond-true}
use Rattle.propagation.specs.Lists.{AreDistinct, Has}
use Rattle.service_machine.specs.States.{Slot, Head, slot_at, number_at_head}
use Rattle.service_machine.specs.Openings.{first_head, first_slot, first_slots}
use Rattle.node_core.specs.View.{senders, AreInOrder, AreCounted}

-- a sender stands among the senders
pub has_sender : {V : Type 0} (slots : List (Slot V)) (i : ℕ) (s : Slot V) → i < length slots → s ≡ slice_index_or slots i s → Has (senders slots) s.sender
has_sender [] i s lt is = absurd (omega arith)
has_sender (x ∷ rest) zero s lt is = inl (ap (λ z. z.sender) (sym is))
has_sender (x ∷ rest) (suc i) s lt is = inr (has_sender rest i s (omega arith) is)

-- where the senders differ, the slot at a place is that of its sender
pub slot_of_place : {V : Type 0} (slots : List (Slot V)) (i : ℕ) (s : Slot V) → AreDistinct (senders slots) → i < length slots → s ≡ slice_index_or slots i s → slot_at slots s.sender ≡ s
slot_of_place [] i s apart lt is = absurd (omega arith)
slot_of_place {V} (x ∷ rest) zero s apart lt is =
    cond-true (x.sender == s.sender) x (slot_at rest s.sender) (eq-eqb x.sender s.sender (ap (λ (z : Slot V). z.sender) (sym is))) ∙ sym is
slot_of_place {V} (x ∷ rest) (suc i) s apart lt is = go (x.sender == s.sender) refl (slot_of_place rest i s apart.1 (omega arith) is)
  where
    go : (b : Bool) → (x.sender == s.sender) ≡ b → slot_at rest s.sender ≡ s → cond b x (slot_at rest s.sender) ≡ s
    go true e h = absurd (apart.0 (let P : ℕ → Type 0 = λ p. Has (senders rest) p in subst P (sym (eqb-true x.sender s.sender e)) (has_sender rest i s (omega arith) is)))
    go false e h = h

-- where nothing waits in any slot, nothing waits of any sender
pub all_are_idle : {V : Type 0} (slots : List (Slot V)) → ((k : ℕ) (s : Slot V) → k < length slots → (slice_index_or slots k s).queue ≡ []) → (p : ℕ) → (slot_at slots p).queue ≡ []
all_are_idle [] idle p = refl
all_are_idle {V} (x ∷ rest) idle p = go (x.sender == p) (all_are_idle rest (λ k s lt. idle (suc k) s (omega arith)) p)
  where
    go : (b : Bool) → (slot_at rest p).queue ≡ [] → (cond b x (slot_at rest p)).queue ≡ []
    go true h = idle 0 x (omega arith)
    go false h = h

-- one head more is the one with the number 0
pub begun_next : {V : Type 0} (slots : List (Slot V)) (i : ℕ) (s : Slot V) → i < length slots → s ≡ slice_index_or slots i s →
    take (suc i) (slice_set slots i (first_slot s)) ++ first_slots (drop (suc i) (slice_set slots i (first_slot s))) ≡ take i slots ++ first_slots (drop i slots)
begun_next [] i s lt is = absurd (omega arith)
begun_next {V} (x ∷ rest) zero s lt is = ap (λ (z : Slot V). first_slot z ∷ first_slots rest) is
begun_next (x ∷ rest) (suc i) s lt is = ap (λ zs. x ∷ zs) (begun_next rest i s (omega arith) is)

-- the senders stay
pub first_senders : {V : Type 0} (slots : List (Slot V)) → senders (first_slots slots) ≡ senders slots
first_senders [] = refl
first_senders (x ∷ rest) = ap (λ ps. x.sender ∷ ps) (first_senders rest)

-- where the senders differ and something waits in a slot, something waits of its sender
pub one_is_busy : {V : Type 0} (slots : List (Slot V)) (i : ℕ) (s : Slot V) → AreDistinct (senders slots) → i < length slots → s ≡ slice_index_or slots i s → (s.queue ≡ [] → ⊥) →
    ((p : ℕ) → (slot_at slots p).queue ≡ []) → ⊥
one_is_busy {V} slots i s apart lt is busy idle = busy (ap (λ (z : Slot V). z.queue) (sym (slot_of_place slots i s apart lt is)) ∙ idle s.sender)

-- what is taken of the slots at first
first_taken : {V : Type 0} (n : ℕ) (slots : List (Slot V)) → senders (take n (first_slots slots)) ≡ senders (take n slots)
first_taken zero slots = refl
first_taken (suc n) [] = refl
first_taken (suc n) (x ∷ rest) = ap (λ ps. x.sender ∷ ps) (first_taken n rest)

-- the slots stay in order
pub in_order_open : {V : Type 0} (edges : List (ℕ × ℕ)) (slots : List (Slot V)) → AreInOrder edges slots → AreInOrder edges (first_slots slots)
in_order_open edges slots was =
    record {
      apart = subst AreDistinct (sym (first_senders slots)) was.apart;
      first = first_taken (length edges) slots ∙ was.first;
    }

-- a head with the number 0 is not counted more
first_number : {V : Type 0} (slots : List (Slot V)) (k : ℕ) (s : Slot V) → k < length (first_slots slots) →
    (number_at_head (slice_index_or (first_slots slots) k s).head ≡ 0) × ((slice_index_or (first_slots slots) k s).queue ≡ (slice_index_or slots k s).queue) × (k < length slots)
first_number [] k s lt = absurd (omega arith)
first_number {V} (x ∷ rest) zero s lt = (go x.head, refl, omega arith)
  where
    go : (h : Option (Head V)) → number_at_head (first_head h) ≡ 0
    go None = refl
    go (Some h) = refl
first_number (x ∷ rest) (suc k) s lt = let one = first_number rest k s (omega arith) in (one.0, one.1, omega (arith, one.2))

-- the slots stay counted
pub counted_open : {V : Type 0} (entries : List Entry) (slots : List (Slot V)) → AreCounted entries slots → AreCounted entries (first_slots slots)
counted_open entries slots was k s lt =
    let one = first_number slots k s lt in
    rw (one.0, one.1) (omega (arith, was k s one.2))

-- without entries each head is the one with the number 0
pub begun_already : {V : Type 0} (entries : List Entry) (slots : List (Slot V)) → length entries ≡ 0 → AreCounted entries slots → slots ≡ first_slots slots
begun_already entries [] none was = refl
begun_already {V} entries (x ∷ rest) none was =
    let first : number_at_head x.head + length x.queue ≤ length entries = was 0 x (omega arith) in
    let same : x ≡ first_slot x = (λ i. record x { head = go x.head (omega arith) i }) in
    (λ i. same i ∷ begun_already entries rest none (λ k s lt. was (suc k) s (omega (arith, lt))) i)
  where
    go : (h : Option (Head V)) → number_at_head h ≡ 0 → h ≡ first_head h
    go None none = refl
    go (Some h) none = (λ i. Some (record h { number = none i }))

-- where nothing waits the slots are counted with no entries
pub counted_close : {V : Type 0} (slots : List (Slot V)) → AreDistinct (senders slots) → ((p : ℕ) → (slot_at slots p).queue ≡ []) → AreCounted [] (first_slots slots)
counted_close {V} slots apart idle k s lt =
    let one = first_number slots k s lt in
    let place : slot_at slots (slice_index_or slots k s).sender ≡ slice_index_or slots k s = slot_of_place slots k (slice_index_or slots k s) apart one.2 (get_or-self slots k s one.2) in
    let none : (slice_index_or slots k s).queue ≡ [] = ap (λ (z : Slot V). z.queue) (sym place) ∙ idle (slice_index_or slots k s).sender in
    rw (one.0, one.1, none) (omega arith)
  where
    get_or-self : (xs : List (Slot V)) (k : ℕ) (s : Slot V) → k < length xs → slice_index_or xs k s ≡ slice_index_or xs k (slice_index_or xs k s)
    get_or-self [] k s lt = absurd (omega arith)
    get_or-self (x ∷ xs) zero s lt = refl
    get_or-self (x ∷ xs) (suc k) s lt = get_or-self xs k s (omega arith)
