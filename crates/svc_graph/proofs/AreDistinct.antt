-- Lists without repetitions.
use Rattle.std.proofs.Common.{◌≡◌, ℕ, Bool, true, false, cond, ◌||◌, filter, List, [], ◌∷◌, ◌++◌, refl, sym, ◌∙◌, subst, inl, inr, true≢false}
use Rattle.std.specs.List.{list_any}
use Rattle.propagation.proofs.Edges.{is_among-Has}
use Rattle.propagation.proofs.Lists.{Has-append_cases, Has-append_left, Has-append_right}
use Rattle.propagation.specs.Lists.{AreDistinct, Has, is_among}
use Rattle.svc_graph.specs.Refusals.{repeats}

-- neither test holds where their disjunction does not
pub or_left : (a b : Bool) → (a || b) ≡ false → a ≡ false
or_left false b h = refl
or_left true b h = h

pub or_right : (a b : Bool) → (a || b) ≡ false → b ≡ false
or_right false b h = h
or_right true b h = absurd (true≢false h)

-- where no element passes a test, an element does not
pub Has-list_any : {A : Type 0} (test : A → Bool) (xs : List A) (x : A) → list_any test xs ≡ false → Has xs x → test x ≡ false
Has-list_any test [] x h has = absurd has
Has-list_any test (y ∷ xs) x h (inl same) = subst (λ z. test z ≡ false) same (or_left (test y) (list_any test xs) h)
Has-list_any test (y ∷ xs) x h (inr later) = Has-list_any test xs x (or_right (test y) (list_any test xs) h) later

-- what is not among the numbers is not there
pub not_among : (ps : List ℕ) (q : ℕ) → is_among ps q ≡ false → Has ps q → ⊥
not_among ps q h has = true≢false (sym (is_among-Has ps q has) ∙ h)

-- two lists without repetitions that share nothing
pub AreDistinct-append : (ps qs : List ℕ) → AreDistinct ps → AreDistinct qs → ((q : ℕ) → Has ps q → Has qs q → ⊥) → AreDistinct (ps ++ qs)
AreDistinct-append [] qs h k none = k
AreDistinct-append (p ∷ ps) qs h k none = (alone, AreDistinct-append ps qs h.1 k (λ q left right. none q (inr left) right))
  where
    alone : Has (ps ++ qs) p → ⊥
    alone has = elim (Has-append_cases ps qs p has) [ inl left ↦ h.0 left | inr right ↦ none p (inl refl) right ]

-- the parts of such a list
pub AreDistinct-left : (ps qs : List ℕ) → AreDistinct (ps ++ qs) → AreDistinct ps
AreDistinct-left [] qs h = tt
AreDistinct-left (p ∷ ps) qs h = ((λ has. h.0 (Has-append_left ps qs p has)), AreDistinct-left ps qs h.1)

pub AreDistinct-right : (ps qs : List ℕ) → AreDistinct (ps ++ qs) → AreDistinct qs
AreDistinct-right [] qs h = h
AreDistinct-right (p ∷ ps) qs h = AreDistinct-right ps qs h.1

pub AreDistinct-disjoint : (ps qs : List ℕ) → AreDistinct (ps ++ qs) → (q : ℕ) → Has ps q → Has qs q → ⊥
AreDistinct-disjoint [] qs h q left right = left
AreDistinct-disjoint (p ∷ ps) qs h q (inl same) right = h.0 (Has-append_right ps qs p (subst (Has qs) (sym same) right))
AreDistinct-disjoint (p ∷ ps) qs h q (inr left) right = AreDistinct-disjoint ps qs h.1 q left right

-- what passes a filter was there
pub Has-filter : (test : ℕ → Bool) (ps : List ℕ) (q : ℕ) → Has (filter test ps) q → Has ps q
Has-filter test [] q has = has
Has-filter test (p ∷ ps) q has = by (test p) has (λ later. Has-filter test ps q later)
  where
    by : (b : Bool) → Has (cond b (p ∷ filter test ps) (filter test ps)) q → (Has (filter test ps) q → Has ps q) → Has (p ∷ ps) q
    by true (inl same) later = inl same
    by true (inr there) later = inr (later there)
    by false there later = inr (later there)

pub AreDistinct-filter : (test : ℕ → Bool) (ps : List ℕ) → AreDistinct ps → AreDistinct (filter test ps)
AreDistinct-filter test [] h = tt
AreDistinct-filter test (p ∷ ps) h = by (test p) (AreDistinct-filter test ps h.1)
  where
    by : (b : Bool) → AreDistinct (filter test ps) → AreDistinct (cond b (p ∷ filter test ps) (filter test ps))
    by true rest = ((λ has. h.0 (Has-filter test ps p has)), rest)
    by false rest = rest

-- members that neither repeat nor stand among the names
repeats-apart : (names members : List ℕ) → repeats names members ≡ false → AreDistinct members
repeats-apart names [] h = tt
repeats-apart names (m ∷ ms) h =
    let first = or_left (is_among names m || is_among ms m) (repeats names ms) h in
    (not_among ms m (or_right (is_among names m) (is_among ms m) first), repeats-apart names ms (or_right (is_among names m || is_among ms m) (repeats names ms) h))

repeats-disjoint : (names members : List ℕ) → repeats names members ≡ false → (q : ℕ) → Has names q → Has members q → ⊥
repeats-disjoint names [] h q left right = right
repeats-disjoint names (m ∷ ms) h q left (inl same) =
    let first = or_left (is_among names m || is_among ms m) (repeats names ms) h in
    not_among names m (or_left (is_among names m) (is_among ms m) first) (subst (Has names) (sym same) left)
repeats-disjoint names (m ∷ ms) h q left (inr later) = repeats-disjoint names ms (or_right (is_among names m || is_among ms m) (repeats names ms) h) q left later

-- so names and members together are without repetitions
pub AreDistinct-repeats : (names members : List ℕ) → AreDistinct names → repeats names members ≡ false → AreDistinct (names ++ members)
AreDistinct-repeats names members h none = AreDistinct-append names members h (repeats-apart names members none) (repeats-disjoint names members none)
