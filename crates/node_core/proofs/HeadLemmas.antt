-- The heads of slots, one after the other.
use Rattle.std.proofs.Common.{◌≡◌, ℕ, zero, suc, ◌<◌, ◌≤◌, List, [], ◌∷◌, ◌++◌, map, length, drop, slice_index_or, Option, Some, None, refl, sym, ap, ◌∙◌, arith, append_assoc, subst, Bool, true, false, cond, ltb, ◌==◌, max}
use Rattle.std.proofs.lemmas.List.{append-nil}
use Rattle.propagation.specs.Stamps.{Stamps}
use Rattle.propagation.specs.Logs.{Emission}
use Rattle.service_machine.specs.States.{Slot, Head, emission_of, number_at_head, raise_one, raise, raise_all}
use Rattle.service_machine.specs.Turning.{heads, with_head}
use Rattle.service_machine.specs.Steps.{picks}
use Rattle.svc_value.specs.declared.value.Value.{Value}
use Rattle.node_core.proofs.StampsLemmas.{nothing_left}

with_some : (h : Option (Head Value)) (m : Emission Value) (ms : List (Emission Value)) → Some m ≡ emission_of h → with_head h ms ≡ m ∷ ms
with_some None m ms e = absurd (cc e)
with_some (Some h) m ms e = let same : m ≡ h.emission = cc e in ap (λ x. x ∷ ms) (sym same)

with_none : (h : Option (Head Value)) (ms : List (Emission Value)) → None ≡ emission_of h → with_head h ms ≡ ms
with_none None ms e = refl
with_none (Some h) ms e = absurd (cc e)

heads_at : (slots : List (Slot Value)) (i : ℕ) (s : Slot Value) → i < length slots → s ≡ slice_index_or slots i s → heads (drop i slots) ≡ with_head s.head (heads (drop (suc i) slots))
heads_at [] i s lt is = absurd (omega arith)
heads_at (x ∷ rest) zero s lt is = ap (λ (z : Slot Value). with_head z.head (heads rest)) (sym is)
heads_at (x ∷ rest) (suc i) s lt is = heads_at rest i s (omega arith) is

pub values_some : (made : List Value) (slots : List (Slot Value)) (i : ℕ) (s : Slot Value) (m : Emission Value) → i < length slots → s ≡ slice_index_or slots i s → Some m ≡ emission_of s.head →
    (made ++ m.value ∷ []) ++ map (λ head. head.value) (heads (drop (suc i) slots)) ≡ made ++ map (λ head. head.value) (heads (drop i slots))
values_some made slots i s m lt is e =
    append_assoc made (m.value ∷ []) (map (λ head. head.value) (heads (drop (suc i) slots)))
    ∙ ap (λ (ms : List (Emission Value)). made ++ map (λ head. head.value) ms) (sym (heads_at slots i s lt is ∙ with_some s.head m (heads (drop (suc i) slots)) e))

pub values_none : (made : List Value) (slots : List (Slot Value)) (i : ℕ) (s : Slot Value) → i < length slots → s ≡ slice_index_or slots i s → None ≡ emission_of s.head →
    made ++ map (λ head. head.value) (heads (drop (suc i) slots)) ≡ made ++ map (λ head. head.value) (heads (drop i slots))
values_none made slots i s lt is e =
    ap (λ (ms : List (Emission Value)). made ++ map (λ head. head.value) ms) (sym (heads_at slots i s lt is ∙ with_none s.head (heads (drop (suc i) slots)) e))

pub values_done : (made : List Value) (slots : List (Slot Value)) (i : ℕ) → length slots ≤ i → made ++ map (λ head. head.value) (heads (drop i slots)) ≡ map (λ head. head.value) (heads slots) →
    made ≡ map (λ head. head.value) (heads slots)
values_done made slots i h is = sym (append-nil made) ∙ ap (λ (xs : List (Slot Value)). made ++ map (λ head. head.value) (heads xs)) (sym (nothing_left slots i h)) ∙ is

pub union_some : (S : Stamps) (slots : List (Slot Value)) (i : ℕ) (s : Slot Value) (m : Emission Value) → i < length slots → s ≡ slice_index_or slots i s → Some m ≡ emission_of s.head →
    raise_all (raise S m.stamps) (heads (drop (suc i) slots)) ≡ raise_all S (heads (drop i slots))
union_some S slots i s m lt is e = ap (λ (ms : List (Emission Value)). raise_all S ms) (sym (heads_at slots i s lt is ∙ with_some s.head m (heads (drop (suc i) slots)) e))

pub union_none : (S : Stamps) (slots : List (Slot Value)) (i : ℕ) (s : Slot Value) → i < length slots → s ≡ slice_index_or slots i s → None ≡ emission_of s.head →
    raise_all S (heads (drop (suc i) slots)) ≡ raise_all S (heads (drop i slots))
union_none S slots i s lt is e = ap (λ (ms : List (Emission Value)). raise_all S ms) (sym (heads_at slots i s lt is ∙ with_none s.head (heads (drop (suc i) slots)) e))

pub union_done : (S T : Stamps) (slots : List (Slot Value)) (i : ℕ) → length slots ≤ i → raise_all S (heads (drop i slots)) ≡ T → S ≡ T
union_done S T slots i h is = ap (λ (xs : List (Slot Value)). raise_all S (heads xs)) (sym (nothing_left slots i h)) ∙ is

pub picks_next : (made : List ℕ) (slots : List (Slot Value)) (i n : ℕ) (s : Slot Value) → i < length slots → s ≡ slice_index_or slots i s → n ≡ number_at_head s.head →
    (made ++ n ∷ []) ++ picks (drop (suc i) slots) ≡ made ++ picks (drop i slots)
picks_next made slots i n s lt is e =
    append_assoc made (n ∷ []) (picks (drop (suc i) slots)) ∙ ap (λ k. made ++ k ∷ picks (drop (suc i) slots)) e ∙ ap (λ zs. made ++ zs) (sym (at slots i s lt is))
  where
    at : (xs : List (Slot Value)) (i : ℕ) (s : Slot Value) → i < length xs → s ≡ slice_index_or xs i s → picks (drop i xs) ≡ number_at_head s.head ∷ picks (drop (suc i) xs)
    at [] i s lt is = absurd (omega arith)
    at (x ∷ rest) zero s lt is = ap (λ (z : Slot Value). number_at_head z.head ∷ picks rest) (sym is)
    at (x ∷ rest) (suc i) s lt is = at rest i s (omega arith) is

pub picks_done : (made : List ℕ) (slots : List (Slot Value)) (i : ℕ) → length slots ≤ i → made ++ picks (drop i slots) ≡ picks slots → made ≡ picks slots
picks_done made slots i h is = sym (append-nil made) ∙ ap (λ (xs : List (Slot Value)). made ++ picks xs) (sym (nothing_left slots i h)) ∙ is

-- there are no more heads than slots
pub few_heads : (slots : List (Slot Value)) → length (map (λ head. head.value) (heads slots)) ≤ length slots
few_heads [] = omega arith
few_heads (x ∷ rest) = go x.head (few_heads rest)
  where
    go : (h : Option (Head Value)) → length (map (λ head. head.value) (heads rest)) ≤ length rest → length (map (λ head. head.value) (with_head h (heads rest))) ≤ suc (length rest)
    go None le = omega (arith, le)
    go (Some h) le = omega (arith, le)

-- the union has a key
raised_one : (S : Stamps) (q c : ℕ) → 0 < length (raise_one S q c)
raised_one [] q c = omega arith
raised_one (x ∷ S) q c = go (x.0 == q) (ltb q x.0)
  where
    go : (a b : Bool) → 0 < length (cond a ((x.0, max x.1 c) ∷ S) (cond b ((q, c) ∷ x ∷ S) (x ∷ raise_one S q c)))
    go true b = omega arith
    go false true = omega arith
    go false false = omega arith

raised_some : (S T : Stamps) → 0 < length S → 0 < length (raise S T)
raised_some S [] lt = lt
raised_some S (x ∷ T) lt = raised_some (raise_one S x.0 x.1) T (raised_one S x.0 x.1)

raised_all : (S : Stamps) (ms : List (Emission Value)) → 0 < length S → 0 < length (raise_all S ms)
raised_all S [] lt = lt
raised_all S (m ∷ ms) lt = raised_all (raise S m.stamps) ms (raised_some S m.stamps lt)

pub union_is_some : (S : Stamps) (id own : ℕ) (ms : List (Emission Value)) → S ≡ raise_all ((id, own) ∷ []) ms → 0 < length S
union_is_some S id own ms is = let P : Stamps → Type 0 = λ T. 0 < length T in subst P (sym is) (raised_all ((id, own) ∷ []) ms (omega arith))
