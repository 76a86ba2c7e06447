-- The peers of a worker: the places that have a ring end.
use Rattle.std.proofs.Common.{◌≡◌, ◌<◌, ◌+◌, ℕ, zero, suc, List, [], ◌∷◌, ◌++◌, take, length, slice_get, slice_index_or, slice_set, Option, Some, None, IfSome, arith, ◌∙◌, refl, subst, ap, inl, inr, true, false}
use Rattle.std.specs.Option.{IsSome, is_some}
use Rattle.propagation.specs.Lists.{Has}
use Rattle.link_fifo.specs.declared.piece_out.PieceOut.{PieceOut}
use Rattle.settle_core.specs.Rings.{ringed, SameTo}
use Rattle.settle_core.proofs.TableLemmas.{has_item}

-- a place that has an end is among them
pub ringed_has : (k : ℕ) (ends : List (Option PieceOut)) (q : ℕ) → IsSome (slice_index_or ends q None) → Has (ringed k ends) (k + q)
ringed_has k [] q some = absurd (cc some)
ringed_has k (None ∷ ends) zero some = absurd (cc some)
ringed_has k (Some end ∷ ends) zero some = inl (omega arith)
ringed_has k (None ∷ ends) (suc q) some = subst (λ j. Has (ringed (k + 1) ends) j) (omega arith) (ringed_has (k + 1) ends q some)
ringed_has k (Some end ∷ ends) (suc q) some = inr (subst (λ j. Has (ringed (k + 1) ends) j) (omega arith) (ringed_has (k + 1) ends q some))

pub ringed_all : (ends : List (Option PieceOut)) (q : ℕ) → IsSome (slice_index_or ends q None) → Has (ringed 0 ends) q
ringed_all ends q some = subst (λ j. Has (ringed 0 ends) j) (omega arith) (ringed_has 0 ends q some)

-- and each of them is one of the places
pub ringed_below : (k : ℕ) (ends : List (Option PieceOut)) (q : ℕ) → Has (ringed k ends) q → q < k + length ends
ringed_below k [] q has = absurd has
ringed_below k (None ∷ ends) q has = omega (arith, ringed_below (k + 1) ends q has)
ringed_below k (Some end ∷ ends) q (inl e) = omega (arith, e)
ringed_below k (Some end ∷ ends) q (inr h) = omega (arith, ringed_below (k + 1) ends q h)

-- an end of the same ring in place of one changes nothing
pub ringed_set : (k : ℕ) (ends : List (Option PieceOut)) (i : ℕ) (now end : Option PieceOut) → now ≡ slice_index_or ends i now → SameTo now end → ringed k (slice_set ends i end) ≡ ringed k ends
ringed_set k [] i now end is same = refl
ringed_set k (x ∷ ends) zero now end is same = here x end (subst (λ (o : Option PieceOut). SameTo o end) is same)
  where
    here : (x end : Option PieceOut) → SameTo x end → ringed k (end ∷ ends) ≡ ringed k (x ∷ ends)
    here None None same = refl
    here None (Some b) same = absurd same
    here (Some a) None same = absurd same
    here (Some a) (Some b) same = refl
ringed_set k (None ∷ ends) (suc i) now end is same = ringed_set (k + 1) ends i now end is same
ringed_set k (Some x ∷ ends) (suc i) now end is same = ap (λ (ps : List ℕ). k ∷ ps) (ringed_set (k + 1) ends i now end is same)

-- one place more
pub ringed_none : (k : ℕ) (ends : List (Option PieceOut)) (i : ℕ) (now : Option PieceOut) → i < length ends → now ≡ slice_index_or ends i now → is_some now ≡ false → ringed k (take (suc i) ends) ≡ ringed k (take i ends)
ringed_none k [] i now less is none = absurd (omega (arith, less))
ringed_none k (None ∷ ends) zero now less is none = refl
ringed_none k (Some x ∷ ends) zero now less is none = absurd (let P : Option PieceOut → Type 0 = λ o. is_some o ≡ false in let no : true ≡ false = subst P is none in cc no)
ringed_none k (None ∷ ends) (suc i) now less is none = ringed_none (k + 1) ends i now (omega (arith, less)) is none
ringed_none k (Some x ∷ ends) (suc i) now less is none = ap (λ (ps : List ℕ). k ∷ ps) (ringed_none (k + 1) ends i now (omega (arith, less)) is none)

pub ringed_some : (k : ℕ) (ends : List (Option PieceOut)) (i : ℕ) (now : Option PieceOut) → i < length ends → now ≡ slice_index_or ends i now → is_some now ≡ true → ringed k (take (suc i) ends) ≡ ringed k (take i ends) ++ (k + i) ∷ []
ringed_some k [] i now less is some = absurd (omega (arith, less))
ringed_some k (None ∷ ends) zero now less is some = absurd (let P : Option PieceOut → Type 0 = λ o. is_some o ≡ true in let no : false ≡ true = subst P is some in cc no)
ringed_some k (Some x ∷ ends) zero now less is some = ap (λ j. j ∷ []) (omega arith)
ringed_some k (None ∷ ends) (suc i) now less is some =
    let e : (k + 1) + i ≡ k + suc i = omega arith in
    ringed_some (k + 1) ends i now (omega (arith, less)) is some ∙ ap (λ j. ringed (k + 1) (take i ends) ++ j ∷ []) e
ringed_some k (Some x ∷ ends) (suc i) now less is some =
    let e : (k + 1) + i ≡ k + suc i = omega arith in
    ap (λ (ps : List ℕ). k ∷ ps) (ringed_some (k + 1) ends i now (omega (arith, less)) is some ∙ ap (λ j. ringed (k + 1) (take i ends) ++ j ∷ []) e)

module _ (ends : List (Option PieceOut)) (i : ℕ) (now : Option PieceOut) (less : i < length ends) (is : now ≡ slice_index_or ends i now) where
  next : suc i ≡ i + 1
  next = omega arith

  pub ringed_past : is_some now ≡ false → ringed 0 (take (i + 1) ends) ≡ ringed 0 (take i ends)
  ringed_past none = subst (λ j. ringed 0 (take j ends) ≡ ringed 0 (take i ends)) next (ringed_none 0 ends i now less is none)

  pub ringed_next : is_some now ≡ true → ringed 0 (take (i + 1) ends) ≡ ringed 0 (take i ends) ++ i ∷ []
  ringed_next some = subst (λ j. ringed 0 (take j ends) ≡ ringed 0 (take i ends) ++ i ∷ []) next (ringed_some 0 ends i now less is some ∙ ap (λ j. ringed 0 (take i ends) ++ j ∷ []) (omega arith))

-- a peer is a service
pub peer_below : (ends : List (Option PieceOut)) (peers : List ℕ) (i p : ℕ) → length ends ≡ 64 → peers ≡ ringed 0 ends → i < length peers → p ≡ slice_index_or peers i p → p < 64
peer_below ends peers i p wide is less at =
    let below : p < 0 + length ends = ringed_below 0 ends p (subst (λ (xs : List ℕ). Has xs p) is (has_item peers i p less at)) in
    omega (arith, below, wide)

pub some_below : (ends : List (Option PieceOut)) (peers : List ℕ) (i : ℕ) → length ends ≡ 64 → peers ≡ ringed 0 ends → IfSome (slice_get peers i) (λ p. p < 64)
some_below ends peers i wide is = each peers i (λ p less at. peer_below ends peers i p wide is less at)
  where
    each : (peers : List ℕ) (i : ℕ) → ((p : ℕ) → i < length peers → p ≡ slice_index_or peers i p → p < 64) → IfSome (slice_get peers i) (λ p. p < 64)
    each [] i all = tt
    each (x ∷ xs) zero all = all x (omega arith) refl
    each (x ∷ xs) (suc i) all = each xs i (λ p less at. all p (omega (arith, less)) at)
