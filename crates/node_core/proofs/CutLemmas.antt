-- Slots in the order of new edges.
use Rattle.std.proofs.Common.{◌≡◌, ◌≢◌, ℕ, zero, suc, ◌<◌, ◌≤◌, ◌==◌, Bool, true, false, cond, List, [], ◌∷◌, ◌++◌, length, take, drop, slice_index_or, Some, None, refl, sym, ap, subst, ◌∙◌, arith, append_assoc, inl, inr, eqb-true, eq-eqb}
use Rattle.std.specs.List.{remove}
use Rattle.std.proofs.lemmas.Bool.{cond-true, cond-false, eqb-false}
use Rattle.propagation.specs.Lists.{AreDistinct, Has, is_among}
use Rattle.service_machine.specs.States.{Slot, slot_at, empty_slot, cut}
use Rattle.service_machine.specs.Steps.{cut_to, cut_others, targets}
use Rattle.node_core.specs.Rewiring.{left_without, cut_rest}
use Rattle.node_core.specs.View.{senders}

drop_at : {A : Type 0} (xs : List A) (i : ℕ) (x : A) → i < length xs → x ≡ slice_index_or xs i x → drop i xs ≡ x ∷ drop (suc i) xs
drop_at [] i x lt is = absurd (omega arith)
drop_at (y ∷ xs) zero x lt is = ap (λ z. z ∷ xs) (sym is)
drop_at (y ∷ xs) (suc i) x lt is = drop_at xs i x (omega arith) is

take_at : {A : Type 0} (xs rest : List A) (i : ℕ) (x : A) → i < length xs → x ≡ slice_index_or xs i x → take (suc i) xs ++ rest ≡ take i xs ++ x ∷ rest
take_at [] rest i x lt is = absurd (omega arith)
take_at (y ∷ xs) rest zero x lt is = ap (λ z. z ∷ rest) (sym is)
take_at (y ∷ xs) rest (suc i) x lt is = ap (λ zs. y ∷ zs) (take_at xs rest i x (omega arith) is)

drop_end : {A : Type 0} (xs : List A) (i : ℕ) → length xs ≤ i → drop i xs ≡ []
drop_end [] zero h = refl
drop_end [] (suc i) h = refl
drop_end (x ∷ xs) zero h = absurd (omega (arith, h))
drop_end (x ∷ xs) (suc i) h = drop_end xs i (omega (arith, h))

take_end : {A : Type 0} (xs : List A) (i : ℕ) → length xs ≤ i → take i xs ++ [] ≡ xs
take_end [] zero h = refl
take_end [] (suc i) h = refl
take_end (x ∷ xs) zero h = absurd (omega (arith, h))
take_end (x ∷ xs) (suc i) h = ap (λ zs. x ∷ zs) (take_end xs i (omega (arith, h)))

-- ---- the slot of a sender is taken out

pub slot_passed : {V : Type 0} (xs : List (Slot V)) (i p : ℕ) (s : Slot V) → i < length xs → s ≡ slice_index_or xs i s → (s.sender == p) ≡ false → slot_at (drop (suc i) xs) p ≡ slot_at (drop i xs) p
slot_passed {V} xs i p s lt is other = sym (ap (λ (zs : List (Slot V)). slot_at zs p) (drop_at xs i s lt is) ∙ cond-false (s.sender == p) s (slot_at (drop (suc i) xs) p) other)

pub slot_found : {V : Type 0} (xs : List (Slot V)) (i p : ℕ) (s : Slot V) → i < length xs → s ≡ slice_index_or xs i s → (s.sender == p) ≡ true → s ≡ slot_at (drop i xs) p
slot_found {V} xs i p s lt is own = sym (ap (λ (zs : List (Slot V)). slot_at zs p) (drop_at xs i s lt is) ∙ cond-true (s.sender == p) s (slot_at (drop (suc i) xs) p) own)

pub slot_none : {V : Type 0} (xs : List (Slot V)) (i p : ℕ) → length xs ≤ i → slot_at (drop i xs) p ≡ empty_slot p
slot_none {V} xs i p h = ap (λ (zs : List (Slot V)). slot_at zs p) (drop_end xs i h)

pub left_passed : {V : Type 0} (xs : List (Slot V)) (i p : ℕ) (s : Slot V) → i < length xs → s ≡ slice_index_or xs i s → (s.sender == p) ≡ false →
    take (suc i) xs ++ left_without p (drop (suc i) xs) ≡ take i xs ++ left_without p (drop i xs)
left_passed {V} xs i p s lt is other =
    take_at xs (left_without p (drop (suc i) xs)) i s lt is
    ∙ ap (λ zs. take i xs ++ zs) (sym (ap (λ (zs : List (Slot V)). left_without p zs) (drop_at xs i s lt is) ∙ cond-false (s.sender == p) (drop (suc i) xs) (s ∷ left_without p (drop (suc i) xs)) other))

pub left_found : {V : Type 0} (xs : List (Slot V)) (i p : ℕ) (s : Slot V) → i < length xs → s ≡ slice_index_or xs i s → (s.sender == p) ≡ true → remove xs i ≡ take i xs ++ left_without p (drop i xs)
left_found {V} xs i p s lt is own =
    ap (λ zs. take i xs ++ zs) (sym (ap (λ (zs : List (Slot V)). left_without p zs) (drop_at xs i s lt is) ∙ cond-true (s.sender == p) (drop (suc i) xs) (s ∷ left_without p (drop (suc i) xs)) own))

pub left_none : {V : Type 0} (xs : List (Slot V)) (i p : ℕ) → length xs ≤ i → xs ≡ take i xs ++ left_without p (drop i xs)
left_none {V} xs i p h = sym (ap (λ (zs : List (Slot V)). take i xs ++ left_without p zs) (drop_end xs i h) ∙ take_end xs i h)

-- ---- what is left

other_slot : {V : Type 0} (xs : List (Slot V)) (p q : ℕ) → p ≢ q → slot_at (left_without p xs) q ≡ slot_at xs q
other_slot [] p q ne = refl
other_slot {V} (x ∷ xs) p q ne = go (x.sender == p) refl (other_slot xs p q ne)
  where
    go : (b : Bool) → (x.sender == p) ≡ b → slot_at (left_without p xs) q ≡ slot_at xs q → slot_at (cond b xs (x ∷ left_without p xs)) q ≡ cond (x.sender == q) x (slot_at xs q)
    go true e h = sym (cond-false (x.sender == q) x (slot_at xs q) (not_both (x.sender == q) refl))
      where
        not_both : (b : Bool) → (x.sender == q) ≡ b → b ≡ false
        not_both true k = absurd (ne (sym (eqb-true x.sender p e) ∙ eqb-true x.sender q k))
        not_both false k = refl
    go false e h = ap (λ z. cond (x.sender == q) x z) h

cut_to_left : {V : Type 0} (edges : List (ℕ × ℕ)) (c p : ℕ) (xs : List (Slot V)) → (Has (targets edges) p → ⊥) → cut_to edges c (left_without p xs) ≡ cut_to edges c xs
cut_to_left [] c p xs none = refl
cut_to_left {V} (e ∷ edges) c p xs none =
    (λ i. cut (Some e.1) c (other_slot xs p e.0 (λ same. none (inl (sym same))) i) ∷ cut_to_left edges c p xs (λ h. none (inr h)) i)

-- a sender that is not there drops nothing
others_none : {V : Type 0} (ps : List ℕ) (c p : ℕ) (xs : List (Slot V)) → (Has (senders xs) p → ⊥) → cut_others (p ∷ ps) c xs ≡ cut_others ps c xs
others_none ps c p [] none = refl
others_none {V} ps c p (x ∷ xs) none =
    ap (λ b. cond b (cut_others (p ∷ ps) c xs) (cut None c x ∷ cut_others (p ∷ ps) c xs)) (cond-false (p == x.sender) true (is_among ps x.sender) (differs (p == x.sender) refl))
    ∙ ap (λ zs. cond (is_among ps x.sender) zs (cut None c x ∷ zs)) (others_none ps c p xs (λ h. none (inr h)))
  where
    differs : (b : Bool) → (p == x.sender) ≡ b → b ≡ false
    differs true e = absurd (none (inl (sym (eqb-true p x.sender e))))
    differs false e = refl

others_left : {V : Type 0} (ps : List ℕ) (c p : ℕ) (xs : List (Slot V)) → AreDistinct (senders xs) → cut_others (p ∷ ps) c xs ≡ cut_others ps c (left_without p xs)
others_left ps c p [] apart = refl
others_left {V} ps c p (x ∷ xs) apart = go (x.sender == p) refl (others_left ps c p xs apart.1)
  where
    go : (b : Bool) → (x.sender == p) ≡ b → cut_others (p ∷ ps) c xs ≡ cut_others ps c (left_without p xs) → cut_others (p ∷ ps) c (x ∷ xs) ≡ cut_others ps c (cond b xs (x ∷ left_without p xs))
    go true e h =
        let same : x.sender ≡ p = eqb-true x.sender p e in
        cond-true (cond (p == x.sender) true (is_among ps x.sender)) (cut_others (p ∷ ps) c xs) (cut None c x ∷ cut_others (p ∷ ps) c xs) (cond-true (p == x.sender) true (is_among ps x.sender) (eq-eqb p x.sender (sym same)))
        ∙ others_none ps c p xs (λ has. apart.0 (let P : ℕ → Type 0 = λ q. Has (senders xs) q in subst P (sym same) has))
    go false e h =
        ap (λ b. cond b (cut_others (p ∷ ps) c xs) (cut None c x ∷ cut_others (p ∷ ps) c xs)) (cond-false (p == x.sender) true (is_among ps x.sender) (flipped (p == x.sender) refl))
        ∙ ap (λ zs. cond (is_among ps x.sender) zs (cut None c x ∷ zs)) h
      where
        flipped : (b : Bool) → (p == x.sender) ≡ b → b ≡ false
        flipped true k = absurd (eqb-false x.sender p e (sym (eqb-true p x.sender k)))
        flipped false k = refl

-- the rest still differs
has_left : {V : Type 0} (xs : List (Slot V)) (p q : ℕ) → Has (senders (left_without p xs)) q → Has (senders xs) q
has_left [] p q has = absurd has
has_left {V} (x ∷ xs) p q has = go (x.sender == p) has (has_left xs p q)
  where
    go : (b : Bool) → Has (senders (cond b xs (x ∷ left_without p xs))) q → (Has (senders (left_without p xs)) q → Has (senders xs) q) → Has (x.sender ∷ senders xs) q
    go true h rec = inr h
    go false (inl e) rec = inl e
    go false (inr h) rec = inr (rec h)

pub apart_left : {V : Type 0} (xs : List (Slot V)) (p : ℕ) → AreDistinct (senders xs) → AreDistinct (senders (left_without p xs))
apart_left [] p apart = tt
apart_left {V} (x ∷ xs) p apart = go (x.sender == p) (apart_left xs p apart.1)
  where
    go : (b : Bool) → AreDistinct (senders (left_without p xs)) → AreDistinct (senders (cond b xs (x ∷ left_without p xs)))
    go true h = apart.1
    go false h = (λ has. apart.0 (has_left xs p x.sender has), h)

-- one edge more
pub edge_step : {V : Type 0} (new old left : List (Slot V)) (edges : List (ℕ × ℕ)) (i c : ℕ) (edge : ℕ × ℕ) (slot : Slot V) → i < length edges → edge ≡ slice_index_or edges i edge →
    AreDistinct (senders old) → AreDistinct (targets (drop i edges)) → slot ≡ cut (Some edge.1) c (slot_at old edge.0) → left ≡ left_without edge.0 old →
    (new ++ slot ∷ []) ++ (cut_to (drop (suc i) edges) c left ++ cut_others (targets (drop (suc i) edges)) c left) ≡ new ++ (cut_to (drop i edges) c old ++ cut_others (targets (drop i edges)) c old)
edge_step {V} new old left edges i c edge slot lt is apart rest at without =
    let here : drop i edges ≡ edge ∷ drop (suc i) edges = drop_at edges i edge lt is in
    let none : Has (targets (drop (suc i) edges)) edge.0 → ⊥ = (let P : List (ℕ × ℕ) → Type 0 = λ es. AreDistinct (targets es) in (subst P here rest).0) in
    append_assoc new (slot ∷ []) (cut_to (drop (suc i) edges) c left ++ cut_others (targets (drop (suc i) edges)) c left)
    ∙ ap (λ zs. new ++ zs)
    (ap (λ (z : Slot V). z ∷ (cut_to (drop (suc i) edges) c left ++ cut_others (targets (drop (suc i) edges)) c left)) at
    ∙ ap (λ (zs : List (Slot V)). cut (Some edge.1) c (slot_at old edge.0) ∷ (cut_to (drop (suc i) edges) c zs ++ cut_others (targets (drop (suc i) edges)) c zs)) without
    ∙ ap (λ (zs : List (Slot V)). cut (Some edge.1) c (slot_at old edge.0) ∷ (zs ++ cut_others (targets (drop (suc i) edges)) c (left_without edge.0 old))) (cut_to_left (drop (suc i) edges) c edge.0 old none)
    ∙ ap (λ (zs : List (Slot V)). cut (Some edge.1) c (slot_at old edge.0) ∷ (cut_to (drop (suc i) edges) c old ++ zs)) (sym (others_left (targets (drop (suc i) edges)) c edge.0 old apart))
    ∙ ap (λ (es : List (ℕ × ℕ)). cut_to es c old ++ cut_others (targets es) c old) (sym here))

pub apart_next : (edges : List (ℕ × ℕ)) (i : ℕ) → i < length edges → AreDistinct (targets (drop i edges)) → AreDistinct (targets (drop (suc i) edges))
apart_next [] i lt apart = absurd (omega arith)
apart_next (e ∷ edges) zero lt apart = apart.1
apart_next (e ∷ edges) (suc i) lt apart = apart_next edges i (omega arith) apart

-- behind the last edge the others come
pub others_rest : {V : Type 0} (c : ℕ) (xs : List (Slot V)) → cut_others [] c xs ≡ cut_rest c xs
others_rest c [] = refl
others_rest {V} c (x ∷ xs) = ap (λ zs. cut None c x ∷ zs) (others_rest c xs)

pub rest_snoc : {V : Type 0} (c : ℕ) (xs : List (Slot V)) (x : Slot V) → cut_rest c (xs ++ x ∷ []) ≡ cut_rest c xs ++ cut None c x ∷ []
rest_snoc c [] x = refl
rest_snoc {V} c (y ∷ xs) x = ap (λ zs. cut None c y ∷ zs) (rest_snoc c xs x)

pub edges_done : {V : Type 0} (new old all : List (Slot V)) (edges : List (ℕ × ℕ)) (i c : ℕ) → length edges ≤ i → new ++ (cut_to (drop i edges) c old ++ cut_others (targets (drop i edges)) c old) ≡ all → new ++ cut_rest c old ≡ all
edges_done {V} new old all edges i c h is =
    ap (λ zs. new ++ zs) (sym (ap (λ (es : List (ℕ × ℕ)). cut_to es c old ++ cut_others (targets es) c old) (drop_end edges i h) ∙ others_rest c old)) ∙ is
