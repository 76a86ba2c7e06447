-- Slots after one of them changed.
use Rattle.std.proofs.Common.{◌≡◌, ℕ, zero, suc, ◌<◌, ◌≤◌, ◌+◌, ◌==◌, Bool, true, false, cond, List, [], ◌∷◌, ◌++◌, length, take, slice_index_or, refl, sym, ap, subst, ◌∙◌, arith, inl, inr, eqb-true, length-append}
use Rattle.std.specs.Prelude.{◌⊎◌}
use Rattle.std.proofs.lemmas.Bool.{eqb-false}
use Rattle.propagation.specs.Lists.{AreDistinct, Has}
use Rattle.propagation.specs.Logs.{Emission, Frame as TheFrame}
use Rattle.propagation.specs.Logs.Frame.{Subscribe, Unsubscribe, Sources, Changed}
use Rattle.propagation.specs.Stamps.{with_clocks}
use Rattle.service_machine.specs.States.{Slot, slot_at, with_slot, announced_to, put, is_live, known_stamps, keys_of, number_at_head}
use Rattle.svc_value.specs.declared.value.Value.{Value}
use Rattle.node_core.specs.declared.entry.Entry.{Entry}
use Rattle.node_core.specs.Receiving.{ArePut}
use Rattle.node_core.specs.View.{senders, AreInOrder, AreCounted}
use Rattle.node_core.proofs.ReceiveLemmas.{slot_sender}
use Rattle.node_core.proofs.InputLemmas.{inputs_within}

-- ---- in order

has_with : {V : Type 0} (slots : List (Slot V)) (new : Slot V) (q : ℕ) → Has (senders (with_slot new slots)) q → Has (senders slots) q ⊎ (new.sender ≡ q)
has_with [] new q (inl e) = inr e
has_with [] new q (inr h) = absurd h
has_with {V} (x ∷ rest) new q has = go (x.sender == new.sender) refl (has_with rest new q) has
  where
    go : (b : Bool) → (x.sender == new.sender) ≡ b → (Has (senders (with_slot new rest)) q → Has (senders rest) q ⊎ (new.sender ≡ q)) →
        Has (senders (cond b (new ∷ rest) (x ∷ with_slot new rest))) q → ((x.sender ≡ q) ⊎ Has (senders rest) q) ⊎ (new.sender ≡ q)
    go true e rec (inl same) = inr same
    go true e rec (inr h) = inl (inr h)
    go false e rec (inl same) = inl (inl same)
    go false e rec (inr h) = elim (rec h) [ inl k ↦ inl (inr k) | inr k ↦ inr k ]

apart_with : {V : Type 0} (slots : List (Slot V)) (new : Slot V) → AreDistinct (senders slots) → AreDistinct (senders (with_slot new slots))
apart_with [] new apart = ((λ h. h), tt)
apart_with {V} (x ∷ rest) new apart = go (x.sender == new.sender) refl (apart_with rest new apart.1)
  where
    go : (b : Bool) → (x.sender == new.sender) ≡ b → AreDistinct (senders (with_slot new rest)) → AreDistinct (senders (cond b (new ∷ rest) (x ∷ with_slot new rest)))
    go true e rec = ((λ h. apart.0 (let P : ℕ → Type 0 = λ p. Has (senders rest) p in subst P (sym (eqb-true x.sender new.sender e)) h)), apart.1)
    go false e rec = ((λ h. elim (has_with rest new x.sender h) [ inl k ↦ apart.0 k | inr k ↦ other e k ]), rec)
      where
        other : (x.sender == new.sender) ≡ false → new.sender ≡ x.sender → ⊥
        other e k = eqb-false x.sender new.sender e (sym k)

first_with : {V : Type 0} (n : ℕ) (slots : List (Slot V)) (new : Slot V) → n ≤ length slots → senders (take n (with_slot new slots)) ≡ senders (take n slots)
first_with zero slots new h = refl
first_with (suc n) [] new h = absurd (omega (arith, h))
first_with {V} (suc n) (x ∷ rest) new h = go (x.sender == new.sender) refl (first_with n rest new (omega (arith, h)))
  where
    go : (b : Bool) → (x.sender == new.sender) ≡ b → senders (take n (with_slot new rest)) ≡ senders (take n rest) →
        senders (take (suc n) (cond b (new ∷ rest) (x ∷ with_slot new rest))) ≡ x.sender ∷ senders (take n rest)
    go true e rec = ap (λ p. p ∷ senders (take n rest)) (sym (eqb-true x.sender new.sender e))
    go false e rec = ap (λ ps. x.sender ∷ ps) rec

-- a slot in place of its sender's, or at the end, leaves the order
in_order_with : {V : Type 0} (edges : List (ℕ × ℕ)) (slots : List (Slot V)) (new : Slot V) → AreInOrder edges slots → AreInOrder edges (with_slot new slots)
in_order_with edges slots new was =
    record {
      apart = apart_with slots new was.apart;
      first = first_with (length edges) slots new (inputs_within edges slots was) ∙ was.first;
    }

-- ---- counted

-- the slot of a sender is counted
counted_at : {V : Type 0} (entries : List Entry) (slots : List (Slot V)) (p : ℕ) → AreCounted entries slots → number_at_head (slot_at slots p).head + length (slot_at slots p).queue ≤ length entries
counted_at entries [] p was = omega arith
counted_at {V} entries (x ∷ rest) p was = go (x.sender == p) (counted_at entries rest p (λ k s lt. was (suc k) s (omega arith)))
  where
    go : (b : Bool) → number_at_head (slot_at rest p).head + length (slot_at rest p).queue ≤ length entries → number_at_head (cond b x (slot_at rest p)).head + length (cond b x (slot_at rest p)).queue ≤ length entries
    go true h = was 0 x (omega arith)
    go false h = h

-- the slots are counted with another one of a sender
counted_with : {V : Type 0} (old more : List Entry) (slots : List (Slot V)) (new : Slot V) → length old ≤ length more → number_at_head new.head + length new.queue ≤ length more → AreCounted old slots → AreCounted more (with_slot new slots)
counted_with old more [] new le one was zero s lt = one
counted_with old more [] new le one was (suc k) s lt = absurd (omega (arith, lt))
counted_with {V} old more (x ∷ rest) new le one was k s lt =
    go (x.sender == new.sender) (λ j lt2. counted_with old more rest new le one (λ i t less. was (suc i) t (omega arith)) j s lt2) k lt
  where
    go : (b : Bool) → ((j : ℕ) → j < length (with_slot new rest) → number_at_head (slice_index_or (with_slot new rest) j s).head + length (slice_index_or (with_slot new rest) j s).queue ≤ length more) →
        (j : ℕ) → j < length (cond b (new ∷ rest) (x ∷ with_slot new rest)) →
        number_at_head (slice_index_or (cond b (new ∷ rest) (x ∷ with_slot new rest)) j s).head + length (slice_index_or (cond b (new ∷ rest) (x ∷ with_slot new rest)) j s).queue ≤ length more
    go true rec zero less = one
    go true rec (suc j) less = omega (arith, le, was (suc j) s (omega (arith, less)))
    go false rec zero less = omega (arith, le, was 0 s (omega arith))
    go false rec (suc j) less = rec j (omega (arith, less))

-- a value is one more at most
put_count : {V : Type 0} (own e : ℕ) (v : V) (pairs : List (ℕ × ℕ)) (s : Slot V) → number_at_head (put own e v pairs s).head + length (put own e v pairs s).queue ≤ suc (number_at_head s.head + length s.queue)
put_count {V} own e v pairs s = go (is_live s.edge own e)
  where
    come : ℕ × Emission V
    come = (e, record { value = v; stamps = with_clocks 0 pairs (known_stamps (keys_of s.announced) s.carried) })

    go : (b : Bool) → number_at_head s.head + length (cond b (s.queue ++ come ∷ []) s.queue) ≤ suc (number_at_head s.head + length s.queue)
    go true = let len : length (s.queue ++ come ∷ []) ≡ length s.queue + length (come ∷ []) = length-append s.queue (come ∷ []) in omega (arith, len)
    go false = omega arith

-- ---- what is heard

-- the slots are those before with another one of the sender, whose head is the same and for which one value more waits at most
pub record IsPutIn (p : ℕ) (old new : List (Slot Value)) : Type 0 where
  pub slot : Slot Value
  pub is : new ≡ with_slot slot old
  pub sender : slot.sender ≡ p
  pub head : slot.head ≡ (slot_at old p).head
  pub count : number_at_head slot.head + length slot.queue ≤ suc (number_at_head (slot_at old p).head + length (slot_at old p).queue)

-- so are those after keys or a value
pub put_in : (own p : ℕ) (said : TheFrame Value) (old new : List (Slot Value)) → ArePut own p said old new → IsPutIn p old new
put_in own p (Subscribe e) old new are = absurd are
put_in own p (Unsubscribe e) old new are = absurd are
put_in own p (Sources e ks) old new are =
    record { slot = announced_to e ks (slot_at old p); is = are; sender = slot_sender old p; head = refl; count = omega arith }
put_in own p (Changed e v pairs) old new are =
    record { slot = put own e v pairs (slot_at old p); is = are; sender = slot_sender old p; head = refl; count = put_count own e v pairs (slot_at old p) }

-- the slots stay in order
pub in_order_put : (edges : List (ℕ × ℕ)) (p : ℕ) (old new : List (Slot Value)) → IsPutIn p old new → AreInOrder edges old → AreInOrder edges new
in_order_put edges p old new was order =
    let P : List (Slot Value) → Type 0 = λ slots. AreInOrder edges slots in
    subst P (sym was.is) (in_order_with edges old was.slot order)

-- and counted, with an entry more
pub counted_put : (entries more : List Entry) (p : ℕ) (old new : List (Slot Value)) → IsPutIn p old new → length entries < length more → AreCounted entries old → AreCounted more new
counted_put entries more p old new was less counted =
    let P : List (Slot Value) → Type 0 = λ slots. AreCounted more slots in
    subst P (sym was.is) (counted_with entries more old was.slot (omega (arith, less)) (omega (arith, less, was.count, counted_at entries old p counted)) counted)
