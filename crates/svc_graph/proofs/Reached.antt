-- How the services are marked on which one rests, from the highest rank down.
use Rattle.std.proofs.Common.{◌≡◌, ℕ, zero, suc, ◌+◌, ◌-◌, ◌<◌, ◌≤◌, Bool, true, false, ◌||◌, ◌==◌, if◌then◌else◌, cond, filter, take, List, [], ◌∷◌, ◌++◌, length, get_or, set, IsPermutation, refl, sym, ap, ◌∙◌, subst, inl, inr, ◌⊎◌, replicate, true≢false, append-nil, ◌&&◌, zero-add, add-one, arith}
use Rattle.std.proofs.Math.Bool.{or-true, or-false}
use Rattle.std.proofs.lemmas.Bool.{cases_eq, cases_lt, eq-eqb, ne_eqb}
use Rattle.std.proofs.lemmas.List.{get_or-set_same, get_or-set_other, get_or_default, take_more}
use Rattle.std.proofs.lemmas.Bool.{eqb-true}
use Rattle.std.proofs.lemmas.List.FromFn.{length-range_with_len, get_or-range_with_len}
use Rattle.std.proofs.lemmas.List.Sorted.{Contains-permutation}
use Rattle.std.specs.List.{range_with_len}
use Rattle.propagation.proofs.Edges.{Has-is_among, is_among-Has}
use Rattle.propagation.specs.History.{Reach, deps, now}
use Rattle.propagation.specs.Stamps.{Rise}
use Rattle.propagation.specs.Lists.{Has, is_among}
use Rattle.std.proofs.lemmas.List.Elements.{filter-append}
use Rattle.std.specs.Cmp.Derive.{both_true}
use Rattle.svc_graph.proofs.Lists.{and_left, and_right, is_among_append, get_or-Has, range_with_len-more}
use Rattle.svc_graph.proofs.Ordered.{Contains-services}
use Rattle.svc_graph.proofs.Theory.{AreBelow-deps}
use Rattle.svc_graph.specs.Book.{IsBook}
use Rattle.svc_graph.specs.Central.{services}
use Rattle.svc_graph.specs.History.{Row, row_at, theory}
use Rattle.svc_graph.specs.Order.{IsInOrder, IsUpTo}

-- the last `step` services of the order have their dependencies marked if they are marked
pub record Marked (rows : List Row) (ids : List ℕ) (id step : ℕ) (marks : List Bool) : Type 0 where
  pub all : IsPermutation (services rows) ids
  pub order : IsInOrder rows ids
  pub room : length marks ≡ 64
  pub start : get_or marks id false ≡ true
  pub sound : (q : ℕ) → get_or marks q false ≡ true → Reach (theory rows) (now (theory rows)) id q
  pub closed : (j : ℕ) → j < length ids → length ids ≤ j + step → get_or marks (get_or ids j 0) false ≡ true →
      (p : ℕ) → Has (deps (theory rows) (get_or ids j 0) (now (theory rows) (get_or ids j 0))) p → get_or marks p false ≡ true

-- one more mark
pub mark-more : (old : List Bool) (ids : List ℕ) (k : ℕ) (id place : ℕ) (now : List Bool) → k < length ids → id ≡ get_or ids k id → place ≡ id → id < length now →
    ((q : ℕ) → get_or now q false ≡ (get_or old q false || is_among (take k ids) q)) →
    (q : ℕ) → get_or (set now place true) q false ≡ (get_or old q false || is_among (take (k + 1) ids) q)
mark-more old ids k id place now within read at small h q =
    elim (cases_eq q place) [
      | inl same ↦ ap (λ r. get_or (set now place true) r false) same ∙ get_or-set_same now place true false (omega (arith, at)) ∙ sym (there (sym at ∙ sym same))
      | inr other ↦ get_or-set_other now place q true false other ∙ h q ∙ ap (λ b. get_or old q false || b) (sym (same_among (λ e. other (sym e ∙ sym at))))
    ]
  where
    longer : is_among (take (k + 1) ids) q ≡ (is_among (take k ids) q || (if id == q then true else false))
    longer = ap (λ ps. is_among ps q) (take_more ids k id within) ∙ is_among_append (take k ids) (get_or ids k id ∷ []) q ∙ ap (λ p. is_among (take k ids) q || (if p == q then true else false)) (sym read)

    there : id ≡ q → (get_or old q false || is_among (take (k + 1) ids) q) ≡ true
    there e = ap (λ b. get_or old q false || b) (longer ∙ ap (λ b. is_among (take k ids) q || (if b then true else false)) (eq-eqb id q e) ∙ or-true (is_among (take k ids) q)) ∙ or-true (get_or old q false)

    same_among : (id ≡ q → ⊥) → is_among (take (k + 1) ids) q ≡ is_among (take k ids) q
    same_among e = longer ∙ ap (λ b. is_among (take k ids) q || (if b then true else false)) (ne_eqb id q e) ∙ or-false (is_among (take k ids) q)

-- the marked ones of one number more
pub filter-kept : (f : ℕ → Bool) (n : ℕ) → f n ≡ true → filter f (range_with_len 0 (n + 1)) ≡ filter f (range_with_len 0 n) ++ n ∷ []
filter-kept f n keeps = ap (filter f) (range_with_len-more n) ∙ filter-append f (range_with_len 0 n) (n ∷ []) ∙ ap (λ b. filter f (range_with_len 0 n) ++ cond b (n ∷ []) []) keeps

pub filter-left : (f : ℕ → Bool) (n : ℕ) → f n ≡ false → filter f (range_with_len 0 (n + 1)) ≡ filter f (range_with_len 0 n)
filter-left f n leaves =
    ap (filter f) (range_with_len-more n) ∙ filter-append f (range_with_len 0 n) (n ∷ []) ∙ ap (λ b. filter f (range_with_len 0 n) ++ cond b (n ∷ []) []) leaves ∙ append-nil (filter f (range_with_len 0 n))

-- ---- one service more

or_cases : (a b : Bool) → (a || b) ≡ true → (a ≡ true) ⊎ (b ≡ true)
or_cases true b h = inl refl
or_cases false b h = inr h

or_intro : (a b : Bool) → a ≡ true → (a || b) ≡ true
or_intro true b h = refl
or_intro false b h = absurd (true≢false (sym h))

-- the marks after the dependencies of a marked reader
pub record Below (rows : List Row) (reader : ℕ) (old new : List Bool) : Type 0 where
  pub marks : (q : ℕ) → get_or new q false ≡ (get_or old q false || (get_or old reader false && is_among (deps (theory rows) reader (now (theory rows) reader)) q))

module _ (rows : List Row) (book : IsBook rows) (ids : List ℕ) (id step reader : ℕ) (old new : List Bool) (h : Marked rows ids id step old) (within : step < length ids)
    (at : reader ≡ get_or ids (length ids - 1 - step) 0) (room : length new ≡ 64) (below : Below rows reader old new) where
  -- what was marked stays marked
  stays : (q : ℕ) → get_or old q false ≡ true → get_or new q false ≡ true
  stays q marked = below.marks q ∙ or_intro (get_or old q false) _ marked

  -- a dependency of a marked reader is marked
  added : get_or old reader false ≡ true → (p : ℕ) → Has (deps (theory rows) reader (now (theory rows) reader)) p → get_or new p false ≡ true
  added marked p has =
      below.marks p ∙ ap (λ b. get_or old p false || b) (both_true marked (is_among-Has (deps (theory rows) reader (now (theory rows) reader)) p has)) ∙ or-true (get_or old p false)

  -- what is marked now was marked, or is a dependency of the marked reader
  cases : (q : ℕ) → get_or new q false ≡ true → (get_or old q false ≡ true) ⊎ ((get_or old reader false ≡ true) × Has (deps (theory rows) reader (now (theory rows) reader)) q)
  cases q marked =
      elim (or_cases (get_or old q false) (get_or old reader false && is_among (deps (theory rows) reader (now (theory rows) reader)) q) (sym (below.marks q) ∙ marked)) [
        | inl before ↦ inl before
        | inr both ↦ inr (and_left (get_or old reader false) _ both, Has-is_among (deps (theory rows) reader (now (theory rows) reader)) q (and_right (get_or old reader false) _ both))
      ]

  -- a service from the reader on in the order is none of its dependencies
  not_below : (j : ℕ) → j < length ids → length ids ≤ j + (step + 1) → Has (deps (theory rows) reader (now (theory rows) reader)) (get_or ids j 0) → ⊥
  not_below j small late has = by (h.order (length ids - 1 - step) j (omega arith) small) ((AreBelow-deps rows book reader (now (theory rows) reader)).falls (get_or ids j 0) has)
    where
      by : IsUpTo rows (get_or ids (length ids - 1 - step) 0) (get_or ids j 0) → (row_at rows (get_or ids j 0)).rank < (row_at rows reader).rank → ⊥
      by (inl higher) lower = omega (arith, ap (λ r. (row_at rows r).rank) at)
      by (inr equal) lower = omega (arith, equal.0, ap (λ r. (row_at rows r).rank) at)

  closed-more : (j : ℕ) → j < length ids → length ids ≤ j + (step + 1) → get_or new (get_or ids j 0) false ≡ true →
      (p : ℕ) → Has (deps (theory rows) (get_or ids j 0) (now (theory rows) (get_or ids j 0))) p → get_or new p false ≡ true
  closed-more j small late marked p has =
      elim (cases (get_or ids j 0) marked) [
        | inl before ↦ elim (cases_lt (j + step) (length ids)) [
          | inl here ↦
              let place : length ids - 1 - step ≡ j = omega arith in
              let same : reader ≡ get_or ids j 0 = at ∙ ap (λ i. get_or ids i 0) place in
              added (ap (λ r. get_or old r false) same ∙ before) p (subst (λ r. Has (deps (theory rows) r (now (theory rows) r)) p) (sym same) has)
          | inr earlier ↦ stays p (h.closed j small earlier before p has)
        ]
        | inr both ↦ absurd (not_below j small late both.1)
      ]

  sound-more : (q : ℕ) → get_or new q false ≡ true → Reach (theory rows) (now (theory rows)) id q
  sound-more q marked = elim (cases q marked) [ inl before ↦ h.sound q before | inr both ↦ Reach.onward (h.sound reader both.0) both.1 ]

  pub Marked-more : Marked rows ids id (step + 1) new
  Marked-more = record { all = h.all; order = h.order; room = room; start = stays id h.start; sound = sound-more; closed = closed-more }

-- one mark among none
pub one-mark : (marks : List Bool) (id : ℕ) → ((q : ℕ) → get_or marks q false ≡ false) → id < length marks → (q : ℕ) → get_or (set marks id true) q false ≡ (q == id)
one-mark marks id none within q =
    elim (cases_eq q id) [
      | inl same ↦ ap (λ r. get_or (set marks id true) r false) same ∙ get_or-set_same marks id true false within ∙ sym (eq-eqb q id same)
      | inr other ↦ get_or-set_other marks id q true false other ∙ none q ∙ sym (ne_eqb q id other)
    ]

pub none-marked : (n q : ℕ) → get_or (replicate n false) q false ≡ false
none-marked zero q = refl
none-marked (suc n) zero = refl
none-marked (suc n) (suc q) = none-marked n q

-- before any step only the service itself is marked
pub Marked-one : (rows : List Row) (ids : List ℕ) (id : ℕ) (marks : List Bool) → IsPermutation (services rows) ids → IsInOrder rows ids → length marks ≡ 64 →
    ((q : ℕ) → get_or marks q false ≡ (q == id)) → Marked rows ids id 0 marks
Marked-one rows ids id marks all order room one =
    record {
      all = all;
      order = order;
      room = room;
      start = one id ∙ eq-eqb id id refl;
      sound = λ q marked. subst (Reach (theory rows) (now (theory rows)) id) (sym (eqb-true q id (sym (one q) ∙ marked))) Reach.itself;
      closed = λ j small late. absurd (omega arith);
    }

-- once all steps are made, what is reached is marked
pub marked-reached : (rows : List Row) (ids : List ℕ) (id : ℕ) (marks : List Bool) → IsBook rows → id < length rows → Marked rows ids id (length ids) marks →
    (q : ℕ) → Reach (theory rows) (now (theory rows)) id q → (get_or marks q false ≡ true) × (q < length rows)
marked-reached rows ids id marks book small h q Reach.itself = (h.start, small)
marked-reached rows ids id marks book small h q (Reach.onward {q = r} reach has) =
    let before = marked-reached rows ids id marks book small h r reach in
    let found = Contains-permutation (services rows) ids r h.all (Contains-services rows r before.1) in
    let at : get_or ids found.0 0 ≡ r = get_or_default ids found.0 0 r found.1 ∙ found.2 in (
      h.closed found.0 found.1 (omega arith) (ap (λ k. get_or marks k false) at ∙ before.0) q (subst (λ k. Has (deps (theory rows) k (now (theory rows) k)) q) (sym at) has),
      (AreBelow-deps rows book r (now (theory rows) r)).declared q has,
    )

-- ---- the list of the marked

-- the marked ones rise
Rise-weaker : (least : ℕ) (qs : List ℕ) → Rise (suc least) qs → Rise least qs
Rise-weaker least [] h = tt
Rise-weaker least (q ∷ qs) h = (omega (arith, h.0), h.1)

Rise-filter_from : (f : ℕ → Bool) (a n : ℕ) → Rise a (filter f (range_with_len a n))
Rise-filter_from f a zero = tt
Rise-filter_from f a (suc n) = by (f a) (subst (λ k. Rise (suc a) (filter f (range_with_len k n))) (sym (add-one a)) (Rise-filter_from f (suc a) n))
  where
    by : (b : Bool) → Rise (suc a) (filter f (range_with_len (a + 1) n)) → Rise a (cond b (a ∷ filter f (range_with_len (a + 1) n)) (filter f (range_with_len (a + 1) n)))
    by true rest = (omega arith, rest)
    by false rest = Rise-weaker a (filter f (range_with_len (a + 1) n)) rest

pub Rise-filter : (f : ℕ → Bool) (n : ℕ) → Rise 0 (filter f (range_with_len 0 n))
Rise-filter f n = Rise-filter_from f 0 n

-- what passes a filter stays, and what stays passes it
Has-filter_kept : (f : ℕ → Bool) (ps : List ℕ) (q : ℕ) → Has ps q → f q ≡ true → Has (filter f ps) q
Has-filter_kept f [] q has passes = absurd has
Has-filter_kept f (p ∷ ps) q (inl same) passes = subst (λ b. Has (cond b (p ∷ filter f ps) (filter f ps)) q) (sym (ap f same ∙ passes)) (inl same)
Has-filter_kept f (p ∷ ps) q (inr later) passes = by (f p) (Has-filter_kept f ps q later passes)
  where
    by : (b : Bool) → Has (filter f ps) q → Has (cond b (p ∷ filter f ps) (filter f ps)) q
    by true has = inr has
    by false has = has

filter-passes : (f : ℕ → Bool) (ps : List ℕ) (q : ℕ) → Has (filter f ps) q → f q ≡ true
filter-passes f [] q has = absurd has
filter-passes f (p ∷ ps) q has = by (f p) refl has (λ later. filter-passes f ps q later)
  where
    by : (b : Bool) → f p ≡ b → Has (cond b (p ∷ filter f ps) (filter f ps)) q → (Has (filter f ps) q → f q ≡ true) → f q ≡ true
    by true e (inl same) rest = ap f (sym same) ∙ e
    by true e (inr later) rest = rest later
    by false e later rest = rest later

-- a marked number below the count is in the list, and only marked ones are
pub Has-marked : (f : ℕ → Bool) (n q : ℕ) → q < n → f q ≡ true → Has (filter f (range_with_len 0 n)) q
Has-marked f n q small marked =
    let there : Has (range_with_len 0 n) (get_or (range_with_len 0 n) q 0) = get_or-Has (range_with_len 0 n) q 0 (rw (length-range_with_len 0 n) small) in
    Has-filter_kept f (range_with_len 0 n) q (subst (Has (range_with_len 0 n)) (get_or-range_with_len 0 n q 0 small ∙ zero-add q) there) marked

pub marked-Has : (f : ℕ → Bool) (n q : ℕ) → Has (filter f (range_with_len 0 n)) q → f q ≡ true
marked-Has f n q has = filter-passes f (range_with_len 0 n) q has
