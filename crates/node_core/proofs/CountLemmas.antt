-- After a change no slot counts more.
use Rattle.std.proofs.Common.{ℕ, zero, suc, ◌≤◌, ◌+◌, ◌==◌, Bool, true, false, cond, filter, List, [], ◌∷◌, ◌++◌, length, Option, Some, None, refl, subst, arith, inl, inr}
use Rattle.propagation.specs.Lists.{Has, is_among}
use Rattle.propagation.specs.Logs.{Emission}
use Rattle.service_machine.specs.States.{Head, Slot, slot_at, cut, cut_head, is_live, number_at_head}
use Rattle.service_machine.specs.Steps.{cut_to, cut_others}
use Rattle.node_core.specs.declared.entry.Entry.{Entry}
use Rattle.node_core.specs.View.{AreCounted}

-- the number of its head and what waits behind it
abbrev count : {V : Type 0} → Slot V → ℕ
count s = number_at_head s.head + length s.queue

-- of each slot, and of each place
each_counted : {V : Type 0} (entries : List Entry) (slots : List (Slot V)) → AreCounted entries slots → (s : Slot V) → Has slots s → count s ≤ length entries
each_counted entries [] was s has = absurd has
each_counted {V} entries (x ∷ rest) was s (inl is) = let P : Slot V → Type 0 = λ z. count z ≤ length entries in subst P is (was 0 x (omega arith))
each_counted entries (x ∷ rest) was s (inr has) = each_counted entries rest (λ k d lt. was (suc k) d (omega (arith, lt))) s has

all_counted : {V : Type 0} (entries : List Entry) (slots : List (Slot V)) → ((s : Slot V) → Has slots s → count s ≤ length entries) → AreCounted entries slots
all_counted entries [] each k d lt = absurd (omega arith)
all_counted entries (x ∷ rest) each zero d lt = each x (inl refl)
all_counted entries (x ∷ rest) each (suc k) d lt = all_counted entries rest (λ s has. each s (inr has)) k d (omega arith)

-- a cut counts no more
fewer : {A : Type 0} (p : A → Bool) (xs : List A) → length (filter p xs) ≤ length xs
fewer p [] = omega arith
fewer {A} p (x ∷ xs) = go (p x) (fewer p xs)
  where
    go : (b : Bool) → length (filter p xs) ≤ length xs → length (cond b (x ∷ filter p xs) (filter p xs)) ≤ suc (length xs)
    go true h = omega (arith, h)
    go false h = omega (arith, h)

head_cut : {V : Type 0} (edge : Option ℕ) (c : ℕ) (h : Option (Head V)) → number_at_head (cut_head edge c h) ≤ number_at_head h
head_cut edge c None = omega arith
head_cut {V} edge c (Some h) = go (is_live edge c h.epoch)
  where
    go : (b : Bool) → number_at_head (cond b (Some h) None) ≤ h.number
    go true = omega arith
    go false = omega arith

cut_counted : {V : Type 0} (edge : Option ℕ) (c : ℕ) (s : Slot V) → count (cut edge c s) ≤ count s
cut_counted {V} edge c s = omega (arith, head_cut edge c s.head, fewer (λ (x : ℕ × Emission V). is_live edge c x.0) s.queue)

-- the slot of a sender, which may be new
slot_counted : {V : Type 0} (n : ℕ) (slots : List (Slot V)) (p : ℕ) → ((s : Slot V) → Has slots s → count s ≤ n) → count (slot_at slots p) ≤ n
slot_counted n [] p each = omega arith
slot_counted {V} n (x ∷ rest) p each = go (x.sender == p) (slot_counted n rest p (λ s has. each s (inr has)))
  where
    go : (b : Bool) → count (slot_at rest p) ≤ n → count (cond b x (slot_at rest p)) ≤ n
    go true h = each x (inl refl)
    go false h = h

to_counted : {V : Type 0} (n : ℕ) (edges : List (ℕ × ℕ)) (c : ℕ) (slots : List (Slot V)) → ((s : Slot V) → Has slots s → count s ≤ n) → (s : Slot V) → Has (cut_to edges c slots) s → count s ≤ n
to_counted n [] c slots each s has = absurd has
to_counted {V} n (e ∷ edges) c slots each s (inl is) =
    let P : Slot V → Type 0 = λ z. count z ≤ n in subst P is (omega (arith, cut_counted (Some e.1) c (slot_at slots e.0), slot_counted n slots e.0 each))
to_counted n (e ∷ edges) c slots each s (inr has) = to_counted n edges c slots each s has

others_counted : {V : Type 0} (n : ℕ) (ps : List ℕ) (c : ℕ) (slots : List (Slot V)) → ((s : Slot V) → Has slots s → count s ≤ n) → (s : Slot V) → Has (cut_others ps c slots) s → count s ≤ n
others_counted n ps c [] each s has = absurd has
others_counted {V} n ps c (x ∷ rest) each s has = go (is_among ps x.sender) has (λ h. others_counted n ps c rest (λ z k. each z (inr k)) s h)
  where
    go : (b : Bool) → Has (cond b (cut_others ps c rest) (cut None c x ∷ cut_others ps c rest)) s → (Has (cut_others ps c rest) s → count s ≤ n) → count s ≤ n
    go true h rec = rec h
    go false (inl is) rec = let P : Slot V → Type 0 = λ z. count z ≤ n in subst P is (omega (arith, cut_counted None c x, each x (inl refl)))
    go false (inr h) rec = rec h

both_counted : {V : Type 0} (n : ℕ) (xs ys : List (Slot V)) → ((s : Slot V) → Has xs s → count s ≤ n) → ((s : Slot V) → Has ys s → count s ≤ n) → (s : Slot V) → Has (xs ++ ys) s → count s ≤ n
both_counted n [] ys first second s has = second s has
both_counted n (x ∷ xs) ys first second s (inl is) = first s (inl is)
both_counted n (x ∷ xs) ys first second s (inr has) = both_counted n xs ys (λ z k. first z (inr k)) second s has

-- all of them
pub counted_cut : {V : Type 0} (entries : List Entry) (edges : List (ℕ × ℕ)) (ps : List ℕ) (c : ℕ) (slots : List (Slot V)) → AreCounted entries slots → AreCounted entries (cut_to edges c slots ++ cut_others ps c slots)
counted_cut {V} entries edges ps c slots was =
    let each : (s : Slot V) → Has slots s → count s ≤ length entries = each_counted entries slots was in
    all_counted entries (cut_to edges c slots ++ cut_others ps c slots) (both_counted (length entries) (cut_to edges c slots) (cut_others ps c slots) (to_counted (length entries) edges c slots each) (others_counted (length entries) ps c slots each))
