-- After a change the slots stand in the order of the new edges.
use Rattle.std.proofs.Common.{◌≡◌, ◌⊎◌, ℕ, ◌==◌, Bool, true, false, cond, List, [], ◌∷◌, ◌++◌, length, take, None, refl, sym, ap, subst, ◌∙◌, inl, inr, eqb-true}
use Rattle.propagation.specs.Lists.{AreDistinct, Has, is_among}
use Rattle.propagation.proofs.Edges.{is_among-Has}
use Rattle.service_machine.specs.States.{Slot, slot_at, cut}
use Rattle.service_machine.specs.Steps.{targets, cut_to, cut_others}
use Rattle.node_core.specs.View.{senders, AreInOrder}

-- the slot of a sender is of that sender
sender_of : {V : Type 0} (slots : List (Slot V)) (p : ℕ) → (slot_at slots p).sender ≡ p
sender_of [] p = refl
sender_of {V} (s ∷ rest) p = go (s.sender == p) refl (sender_of rest p)
  where
    go : (b : Bool) → (s.sender == p) ≡ b → (slot_at rest p).sender ≡ p → (cond b s (slot_at rest p)).sender ≡ p
    go true e h = eqb-true s.sender p e
    go false e h = h

-- those of the edges are of their targets
cut_senders : {V : Type 0} (edges : List (ℕ × ℕ)) (c : ℕ) (slots : List (Slot V)) → senders (cut_to edges c slots) ≡ targets edges
cut_senders [] c slots = refl
cut_senders {V} (e ∷ edges) c slots = λ i. sender_of slots e.0 i ∷ cut_senders edges c slots i

cut_first : {V : Type 0} (edges : List (ℕ × ℕ)) (c : ℕ) (slots rest : List (Slot V)) → senders (take (length edges) (cut_to edges c slots ++ rest)) ≡ targets edges
cut_first [] c slots rest = refl
cut_first {V} (e ∷ edges) c slots rest = λ i. sender_of slots e.0 i ∷ cut_first edges c slots rest i

-- the others are of other senders
other_senders : {V : Type 0} (ps : List ℕ) (c : ℕ) (slots : List (Slot V)) (q : ℕ) → Has (senders (cut_others ps c slots)) q → Has (senders slots) q × (is_among ps q ≡ false)
other_senders ps c [] q has = absurd has
other_senders {V} ps c (s ∷ rest) q has = go (is_among ps s.sender) refl has (λ h. other_senders ps c rest q h)
  where
    go : (b : Bool) → is_among ps s.sender ≡ b → Has (senders (cond b (cut_others ps c rest) (cut None c s ∷ cut_others ps c rest))) q →
        (Has (senders (cut_others ps c rest)) q → Has (senders rest) q × (is_among ps q ≡ false)) → Has (s.sender ∷ senders rest) q × (is_among ps q ≡ false)
    go true e h rec = (inr (rec h).0, (rec h).1)
    go false e (inl is) rec = (inl is, (let P : ℕ → Type 0 = λ k. is_among ps k ≡ false in subst P is e))
    go false e (inr h) rec = (inr (rec h).0, (rec h).1)

apart_others : {V : Type 0} (ps : List ℕ) (c : ℕ) (slots : List (Slot V)) → AreDistinct (senders slots) → AreDistinct (senders (cut_others ps c slots))
apart_others ps c [] apart = tt
apart_others {V} ps c (s ∷ rest) apart = go (is_among ps s.sender) (apart_others ps c rest apart.1)
  where
    go : (b : Bool) → AreDistinct (senders (cut_others ps c rest)) → AreDistinct (senders (cond b (cut_others ps c rest) (cut None c s ∷ cut_others ps c rest)))
    go true h = h
    go false h = (λ has. apart.0 (other_senders ps c rest s.sender has).0, h)

-- the senders of both
senders_append : {V : Type 0} (xs ys : List (Slot V)) → senders (xs ++ ys) ≡ senders xs ++ senders ys
senders_append [] ys = refl
senders_append (x ∷ xs) ys = ap (λ ps. x.sender ∷ ps) (senders_append xs ys)

has_either : (ps qs : List ℕ) (p : ℕ) → Has (ps ++ qs) p → Has ps p ⊎ Has qs p
has_either [] qs p has = inr has
has_either (x ∷ ps) qs p (inl is) = inl (inl is)
has_either (x ∷ ps) qs p (inr has) = go (has_either ps qs p has)
  where
    go : Has ps p ⊎ Has qs p → Has (x ∷ ps) p ⊎ Has qs p
    go (inl h) = inl (inr h)
    go (inr h) = inr h

apart_append : (ps qs : List ℕ) → AreDistinct ps → AreDistinct qs → ((p : ℕ) → Has ps p → Has qs p → ⊥) → AreDistinct (ps ++ qs)
apart_append [] qs first second none = second
apart_append (x ∷ ps) qs first second none = (λ has. go (has_either ps qs x has), apart_append ps qs first.1 second (λ p one two. none p (inr one) two))
  where
    go : Has ps x ⊎ Has qs x → ⊥
    go (inl h) = first.0 h
    go (inr h) = none x (inl refl) h

-- all of them
pub in_order_cut : {V : Type 0} (edges : List (ℕ × ℕ)) (c : ℕ) (slots : List (Slot V)) → AreDistinct (targets edges) → AreDistinct (senders slots) → AreInOrder edges (cut_to edges c slots ++ cut_others (targets edges) c slots)
in_order_cut {V} edges c slots differ apart =
    record {
      apart = subst AreDistinct (sym (senders_append (cut_to edges c slots) (cut_others (targets edges) c slots) ∙ ap (λ ps. ps ++ senders (cut_others (targets edges) c slots)) (cut_senders edges c slots)))
          (apart_append (targets edges) (senders (cut_others (targets edges) c slots)) differ (apart_others (targets edges) c slots apart)
          (λ p one two. let yes = is_among-Has (targets edges) p one in let no = (other_senders (targets edges) c slots p two).1 in absurd (cc (yes, no))));
      first = cut_first edges c slots (cut_others (targets edges) c slots);
    }
