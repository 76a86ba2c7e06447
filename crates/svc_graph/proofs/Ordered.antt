-- The order by rank and number.
use Rattle.std.proofs.Common.{◌≡◌, ℕ, suc, ◌+◌, ◌*◌, ◌<◌, ◌≤◌, List, [], ◌∷◌, length, get_or, All, IsPermutation, refl, sym, ap, ◌∙◌, subst, inl, inr, ◌⊎◌, add-one, arith, Contains, zero-add}
use Rattle.std.proofs.lemmas.Bool.{cases_lt}
use Rattle.std.proofs.lemmas.List.FromFn.{length-range_with_len, get_or-range_with_len}
use Rattle.std.proofs.lemmas.List.Sorted.{All-permutation}
use Rattle.std.specs.List.{range_with_len}
use Rattle.std.specs.List.Sorted.{IsNonDecreasingBy}
use Rattle.svc_graph.proofs.Changed.{kind_at-roster}
use Rattle.svc_graph.specs.Central.{services, services_from}
use Rattle.svc_graph.specs.History.{Row, roster_of, row_at}
use Rattle.svc_graph.specs.Order.{IsInOrder, order_key}

-- the numbers of all services are those below their count
services_from-range : (n : ℕ) (rows : List Row) → services_from n rows ≡ range_with_len n (length rows)
services_from-range n [] = refl
services_from-range n (row ∷ rows) = ap (λ ns. n ∷ ns) (services_from-range (suc n) rows ∙ ap (λ k. range_with_len k (length rows)) (sym (add-one n)))

pub services-range : (rows : List Row) → services rows ≡ range_with_len 0 (length rows)
services-range rows = services_from-range 0 rows

-- each of them is below the count
pub services-below : (rows : List Row) → All (λ n. n < length rows) (services rows)
services-below rows k d within =
    let small : k < length rows = rw (services-range rows, length-range_with_len) at within in
    subst (λ n. n < length rows) (sym (ap (λ ns. get_or ns k d) (services-range rows) ∙ get_or-range_with_len 0 (length rows) k d small)) (omega arith)

-- each number below the count is one of them
pub Contains-services : (rows : List Row) (p : ℕ) → p < length rows → Contains (services rows) p
Contains-services rows p declared =
    (p, rw (services-range rows, length-range_with_len) declared, ap (λ ns. get_or ns p p) (services-range rows) ∙ get_or-range_with_len 0 (length rows) p p declared ∙ zero-add p)

-- each service of a list of them all is declared
pub services_within : (rows : List Row) (ids : List ℕ) → IsPermutation (services rows) ids → (k : ℕ) → k < length ids → get_or ids k 0 < length rows
services_within rows ids all k within = All-permutation (λ n. n < length rows) (services rows) ids all (services-below rows) k 0 within

-- two keys in order
keys-apart : (a b p q : ℕ) → p < 65536 → q < 65536 → a * 65536 + p ≤ b * 65536 + q → (a < b) ⊎ ((a ≡ b) × (p ≤ q))
keys-apart a b p q small_p small_q h =
    elim (cases_lt a b) [
      | inl below ↦ inl below
      | inr above ↦ let same : a ≡ b = omega arith in inr (same, omega arith)
    ]

-- the services in the order of their keys are in order
pub IsInOrder-sorted : (rows : List Row) (ids : List ℕ) → length rows ≤ 64 → IsPermutation (services rows) ids → IsNonDecreasingBy (order_key (roster_of rows)) ids → IsInOrder rows ids
IsInOrder-sorted rows ids few all sorted i j order within =
    let below = All-permutation (λ n. n < length rows) (services rows) ids all (services-below rows) in
    let first = below i 0 (omega arith) in
    let second = below j 0 within in
    let keys = sorted i j 0 order within in
    keys-apart (row_at rows (get_or ids i 0)).rank (row_at rows (get_or ids j 0)).rank (get_or ids i 0) (get_or ids j 0) (omega arith) (omega arith)
    (subst (λ k. k.rank * 65536 + get_or ids i 0 ≤ (row_at rows (get_or ids j 0)).rank * 65536 + get_or ids j 0) (kind_at-roster rows (get_or ids i 0))
    (subst (λ k. order_key (roster_of rows) (get_or ids i 0) ≤ k.rank * 65536 + get_or ids j 0) (kind_at-roster rows (get_or ids j 0)) keys))
