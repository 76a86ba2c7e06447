-- The places of the bits of a word.
use Rattle.std.proofs.Common.{◌≡◌, ◌≢◌, ℕ, zero, suc, ◌+◌, ◌-◌, ◌*◌, ◌%◌, ◌/◌, ◌^◌, ◌<◌, ◌≤◌, max, List, [], ◌∷◌, ◌++◌, length, get_or, refl, sym, ap, ◌∙◌, subst, ◌⊎◌, ◌↔◌, inl, inr, arith, ◌==◌, eq-eqb, eqb-true, true, bit_and, bit_or, count_ones, length-append, IsTrue, nat_eq, nat_le, find, Some, None}
use Rattle.std.proofs.lemmas.Bool.{cond-true, cond-false, cases_Bool, eqb-false, cases_eq, cases_lt, leb-true, leb-false}
use Rattle.std.proofs.lemmas.List.{get_or_append_left}
use Rattle.std.proofs.lemmas.Nat.{ones_cat, shr-shr, shr_le, mod_below, pow_pos, and_le_l, and_mask, one_shl, or_lt}
use Rattle.std.proofs.lemmas.Nat.Bits.{bit_at-lt, bit_at-zero, shr_and_one, bit_at_above, bit_at_or, bit_at_set_same, bit_at_set_other, bit_at_clear_same, bit_at_clear_other, bit_at-trailing_zeros}
use Rattle.std.proofs.Math.Nat.{mod-eq_of_lt}
use Rattle.std.proofs.Math.Seq.{get_or-append_seam}
use Rattle.std.specs.Int.Count.{ones}
use Rattle.std.specs.Int.{bit_at, w64, bit_not, trailing_zeros}
use Rattle.propagation.specs.Lists.{Has}
use Rattle.propagation.specs.Stamps.{Rise}
use Rattle.propagation.proofs.Lists.{Has-append_left, Has-append_right, Has-append_cases}
use Rattle.stamp_clock.specs.Places.{places_below, places, AreKeys}
use Rattle.stamp_clock.specs.WordOf.{mod-pow-suc}
use Rattle.stamp_clock.proofs.RiseLemmas.{rise-append, rise-least, rise-same, rise-from, all-has}

-- ---- the places of a word

pub has-places : (n word q : ℕ) → q < n → bit_at word q ≡ 1 → Has (places_below n word) q
unfolding places_below
has-places zero word q lt one = absurd (omega arith)
has-places (suc n) word q lt one =
    elim (cases_Bool (bit_at word n == 1)) [
      | inl t ↦ subst (λ xs. Has xs q) (sym (cond-true (bit_at word n == 1) (places_below n word ++ n ∷ []) (places_below n word) t))
          (elim (cases_eq q n) [
            | inl e ↦ Has-append_right (places_below n word) (n ∷ []) q (inl (sym e))
            | inr ne ↦ Has-append_left (places_below n word) (n ∷ []) q (has-places n word q (omega arith) one)
          ])
      | inr t ↦ subst (λ xs. Has xs q) (sym (cond-false (bit_at word n == 1) (places_below n word ++ n ∷ []) (places_below n word) t))
          (elim (cases_eq q n) [
            | inl e ↦ absurd (eqb-false (bit_at word n) 1 t (ap (bit_at word) (sym e) ∙ one))
            | inr ne ↦ has-places n word q (omega arith) one
          ])
    ]

pub places-has : (n word q : ℕ) → Has (places_below n word) q → (q < n) × (bit_at word q ≡ 1)
unfolding places_below
places-has zero word q h = absurd h
places-has (suc n) word q h =
    elim (cases_Bool (bit_at word n == 1)) [
      | inl t ↦ elim (Has-append_cases (places_below n word) (n ∷ []) q (subst (λ xs. Has xs q) (cond-true (bit_at word n == 1) (places_below n word ++ n ∷ []) (places_below n word) t) h)) [
        | inl here ↦ (let before = places-has n word q here in (omega (arith, before.0), before.1))
        | inr (inl e) ↦ (omega arith, ap (bit_at word) (sym e) ∙ eqb-true (bit_at word n) 1 t)
        | inr (inr none) ↦ absurd none
      ]
      | inr t ↦ (let before = places-has n word q (subst (λ xs. Has xs q) (cond-false (bit_at word n == 1) (places_below n word ++ n ∷ []) (places_below n word) t) h) in (omega (arith, before.0), before.1))
    ]

pub rise-places : (n word : ℕ) → Rise 0 (places_below n word)
unfolding places_below
rise-places zero word = tt
rise-places (suc n) word =
    elim (cases_Bool (bit_at word n == 1)) [
      | inl t ↦ subst (λ xs. Rise 0 xs) (sym (cond-true (bit_at word n == 1) (places_below n word ++ n ∷ []) (places_below n word) t))
          (rise-append 0 (places_below n word) n (rise-places n word) (omega arith) (λ q h. (places-has n word q h).0))
      | inr t ↦ subst (λ xs. Rise 0 xs) (sym (cond-false (bit_at word n == 1) (places_below n word ++ n ∷ []) (places_below n word) t)) (rise-places n word)
    ]

-- how many there are
pub length-places : (n word : ℕ) → length (places_below n word) ≡ count_ones (word % 2 ^ n)
unfolding places_below ones
length-places zero word = ap count_ones (let e : 0 ≡ word % 2 ^ 0 = omega arith in e)
length-places (suc n) word =
    let before : length (places_below n word) ≡ count_ones (word % 2 ^ n) = length-places n word in
    let more : count_ones (word % 2 ^ suc n) ≡ count_ones (bit_at word n) + count_ones (word % 2 ^ n) =
    ap count_ones (mod-pow-suc word n) ∙ ones_cat n (bit_at word n) (word % 2 ^ n) (mod_below word (2 ^ n) (pow_pos n)) in
    elim (cases_Bool (bit_at word n == 1)) [
      | inl t ↦ ap length (cond-true (bit_at word n == 1) (places_below n word ++ n ∷ []) (places_below n word) t)
          ∙ (let one : count_ones (bit_at word n) ≡ 1 = ap count_ones (eqb-true (bit_at word n) 1 t) in omega (arith, length-append (places_below n word) (n ∷ [])))
      | inr t ↦ ap length (cond-false (bit_at word n == 1) (places_below n word ++ n ∷ []) (places_below n word) t)
          ∙ (let none : bit_at word n ≡ 0 = (let lt : bit_at word n < 2 = bit_at-lt word n in let ne : bit_at word n ≢ 1 = eqb-false (bit_at word n) 1 t in omega arith) in
          let gone : count_ones (bit_at word n) ≡ 0 = ap count_ones none in omega arith)
    ]

-- a place stands after those below it
pub places-at : (n word q : ℕ) → q < n → bit_at word q ≡ 1 → (length (places_below q word) < length (places_below n word)) × (get_or (places_below n word) (length (places_below q word)) 0 ≡ q)
unfolding places_below
places-at zero word q lt one = absurd (omega arith)
places-at (suc n) word q lt one =
    elim (cases_eq q n) [
      | inl e ↦ subst (λ k. (length (places_below k word) < length (places_below (suc n) word)) × (get_or (places_below (suc n) word) (length (places_below k word)) 0 ≡ k)) (sym e)
          (let t : (bit_at word n == 1) ≡ true = eq-eqb (bit_at word n) 1 (ap (bit_at word) (sym e) ∙ one) in
          subst (λ (xs : List ℕ). (length (places_below n word) < length xs) × (get_or xs (length (places_below n word)) 0 ≡ n)) (sym (cond-true (bit_at word n == 1) (places_below n word ++ n ∷ []) (places_below n word) t))
          (omega (arith, length-append (places_below n word) (n ∷ [])), get_or-append_seam (places_below n word) n [] 0))
      | inr ne ↦ (let before = places-at n word q (omega arith) one in
          elim (cases_Bool (bit_at word n == 1)) [
            | inl t ↦ subst (λ (xs : List ℕ). (length (places_below q word) < length xs) × (get_or xs (length (places_below q word)) 0 ≡ q)) (sym (cond-true (bit_at word n == 1) (places_below n word ++ n ∷ []) (places_below n word) t))
                (omega (arith, before.0, length-append (places_below n word) (n ∷ [])), get_or_append_left (places_below n word) (n ∷ []) 0 (length (places_below q word)) before.0 ∙ before.1)
            | inr t ↦ subst (λ (xs : List ℕ). (length (places_below q word) < length xs) × (get_or xs (length (places_below q word)) 0 ≡ q)) (sym (cond-false (bit_at word n == 1) (places_below n word ++ n ∷ []) (places_below n word) t)) before
          ])
    ]

-- ---- a word of 64 bits

pub word-has : (word q : ℕ) → word < 2 ^ 64 → bit_at word q ≡ 1 → Has (places word) q
unfolding places
word-has word q fits one =
    elim (cases_lt q 64) [
      | inl lt ↦ has-places 64 word q lt one
      | inr ge ↦ absurd (let none : bit_at word q ≡ 0 = bit_at_above word 64 q fits ge in omega arith)
    ]

pub has-word : (word q : ℕ) → Has (places word) q → (q < 64) × (bit_at word q ≡ 1)
unfolding places
has-word word q h = places-has 64 word q h

pub rise-word : (word : ℕ) → Rise 0 (places word)
unfolding places
rise-word word = rise-places 64 word

pub are-keys : (word : ℕ) → AreKeys (places word)
are-keys word = record { rise = rise-word word; below = all-has (λ q. q < 64) (places word) (λ q h. (has-word word q h).0) }

pub length-word : (word : ℕ) → word < 2 ^ 64 → count_ones word ≡ length (places word)
unfolding places
length-word word fits = sym (length-places 64 word ∙ ap count_ones (mod-eq_of_lt fits))

-- the places below a key, counted under a mask
mask-length : (word key : ℕ) → key < 64 → count_ones (bit_and word (1 * 2 ^ key % 2 ^ 64 - 1)) ≡ length (places_below key word)
mask-length word key lt =
    ap (λ one. count_ones (bit_and word (one - 1))) (one_shl key 64 lt) ∙ ap count_ones (and_mask word key) ∙ sym (length-places key word)

pub rank-at : (word key : ℕ) → Has (places word) key → (count_ones (bit_and word (1 * 2 ^ key % 2 ^ 64 - 1)) < length (places word)) × (get_or (places word) (count_ones (bit_and word (1 * 2 ^ key % 2 ^ 64 - 1))) 0 ≡ key)
unfolding places
rank-at word key h =
    let is = has-word word key h in
    subst (λ n. (n < length (places word)) × (get_or (places word) n 0 ≡ key)) (sym (mask-length word key is.0)) (places-at 64 word key is.0 is.1)

pub fits-set : (word k : ℕ) → word < 2 ^ 64 → k < 64 → bit_or word (1 * 2 ^ k % 2 ^ 64) < 2 ^ 64
fits-set word k fits lt = or_lt 64 word (1 * 2 ^ k % 2 ^ 64) fits (mod_below (1 * 2 ^ k) (2 ^ 64) (pow_pos 64))

-- a greater place is set
pub places-set : (word k : ℕ) → word < 2 ^ 64 → k < 64 → ((q : ℕ) → Has (places word) q → q < k) → places (bit_or word (1 * 2 ^ k % 2 ^ 64)) ≡ places word ++ k ∷ []
places-set word k fits lt above =
    rise-same 0 0 (places (bit_or word (1 * 2 ^ k % 2 ^ 64))) (places word ++ k ∷ []) (rise-word (bit_or word (1 * 2 ^ k % 2 ^ 64))) (rise-append 0 (places word) k (rise-word word) (omega arith) above)
    (λ q h. elim (cases_eq q k) [
      | inl e ↦ Has-append_right (places word) (k ∷ []) q (inl (sym e))
      | inr ne ↦ Has-append_left (places word) (k ∷ []) q (word-has word q fits (sym (bit_at_set_other w64 word k lt q ne) ∙ (has-word (bit_or word (1 * 2 ^ k % 2 ^ 64)) q h).1))
    ])
    (λ q h. elim (Has-append_cases (places word) (k ∷ []) q h) [
      | inl here ↦ (let ne : q ≢ k = (let l : q < k = above q here in omega arith) in word-has (bit_or word (1 * 2 ^ k % 2 ^ 64)) q (fits-set word k fits lt) (bit_at_set_other w64 word k lt q ne ∙ (has-word word q here).1))
      | inr (inl e) ↦ word-has (bit_or word (1 * 2 ^ k % 2 ^ 64)) q (fits-set word k fits lt) (ap (bit_at (bit_or word (1 * 2 ^ k % 2 ^ 64))) (sym e) ∙ bit_at_set_same w64 word k lt)
      | inr (inr none) ↦ absurd none
    ])

-- the least place is cleared
pub places-clear : (word : ℕ) → 0 < word → word < 2 ^ 64 →
    let least = trailing_zeros w64 word in
    places word ≡ least ∷ places (bit_and word (bit_not w64 (1 * 2 ^ least % 2 ^ 64)))
places-clear word some fits =
    let least : ℕ = trailing_zeros w64 word in
    let rest : ℕ = bit_and word (bit_not w64 (1 * 2 ^ least % 2 ^ 64)) in
    let is = bit_at-trailing_zeros w64 word some fits in
    let other : (q : ℕ) → q < 64 → q ≢ least → bit_at rest q ≡ bit_at word q = λ q lt ne. bit_at_clear_other w64 word least is.0 q lt ne in
    let gone : bit_at rest least ≡ 0 = bit_at_clear_same w64 word least is.0 in
    let not_least : (q : ℕ) → Has (places rest) q → q ≢ least = λ q h e. (let one : bit_at rest least ≡ 1 = subst (λ k. bit_at rest k ≡ 1) e (has-word rest q h).1 in absurd (omega arith)) in
    let less : rest < 2 ^ 64 = (let le : rest ≤ word = and_le_l word (bit_not w64 (1 * 2 ^ least % 2 ^ 64)) in omega arith) in
    rise-same 0 0 (places word) (least ∷ places rest) (rise-word word) (
      omega arith,
      rise-from 0 (suc least) (places rest) (rise-word rest) (λ q h.
          (let at = has-word rest q h in
          let ne : q ≢ least = not_least q h in
          let one : bit_at word q ≡ 1 = sym (other q at.0 ne) ∙ at.1 in
          elim (cases_lt q least) [ inl lt ↦ absurd (let none : bit_at word q ≡ 0 = is.2 q lt in omega arith) | inr ge ↦ omega arith ])),
    )
    (λ q h. elim (cases_eq q least) [
      | inl e ↦ inl (sym e)
      | inr ne ↦ (let at = has-word word q h in inr (word-has rest q less (other q at.0 ne ∙ at.1)))
    ])
    (λ q h. elim h [
      | inl e ↦ word-has word q fits (ap (bit_at word) (sym e) ∙ is.1)
      | inr k ↦ (let at = has-word rest q k in word-has word q fits (sym (other q at.0 (not_least q k)) ∙ at.1))
    ])

-- a bit of either
either : (a b : ℕ) → a < 2 → b < 2 → max a b ≡ 1 → (a ≡ 1) ⊎ (b ≡ 1)
either a b p q e = elim (cases_eq a 1) [ inl y ↦ inl y | inr n ↦ inr (omega arith) ]

pub places-or : (a b : ℕ) → a < 2 ^ 64 → b < 2 ^ 64 → (q : ℕ) → Has (places (bit_or a b)) q ↔ (Has (places a) q ⊎ Has (places b) q)
places-or a b fa fb q = (
  (λ h. (let at = has-word (bit_or a b) q h in
      elim (either (bit_at a q) (bit_at b q) (bit_at-lt a q) (bit_at-lt b q) (sym (bit_at_or a b q) ∙ at.1)) [
        | inl e ↦ inl (word-has a q fa e)
        | inr e ↦ inr (word-has b q fb e)
      ])),
  (λ h. word-has (bit_or a b) q (or_lt 64 a b fa fb) (bit_at_or a b q ∙ elim h [
    | inl k ↦ (let x = has-word a q k in let l : bit_at b q < 2 = bit_at-lt b q in omega (arith, x.1))
    | inr k ↦ (let y = has-word b q k in let l : bit_at a q < 2 = bit_at-lt a q in omega (arith, y.1))
  ])),
)

-- the test of a bit
pub bit-tested : (word key : ℕ) → word < 2 ^ 64 → IsTrue (nat_eq (bit_and (word / 2 ^ key) 1) 1) ↔ Has (places word) key
bit-tested word key fits = (
  (λ t. word-has word key fits (sym (shr_and_one word key) ∙ eqb-true (bit_and (word / 2 ^ key) 1) 1 t)),
  (λ h. eq-eqb (bit_and (word / 2 ^ key) 1) 1 (shr_and_one word key ∙ (has-word word key h).1)),
)

-- the least place from a start on
pub find-least : (xs : List ℕ) (start k : ℕ) → Has xs k → start ≤ k → ((q : ℕ) → Has xs q → start ≤ q → k ≤ q) → (a : ℕ) → Rise a xs → find (nat_le start) xs ≡ Some k
find-least [] start k h le least a r = absurd h
find-least (x ∷ xs) start k h le least a r =
    elim (cases_Bool (nat_le start x)) [
      | inl t ↦ cond-true (nat_le start x) (Some x) (find (nat_le start) xs) t
          ∙ ap (λ n. Some n) (let ge : k ≤ x = least x (inl refl) (leb-true start x t) in let least_x : x ≤ k = rise-least x (x ∷ xs) k (omega arith, r.1) h in omega arith)
      | inr t ↦ cond-false (nat_le start x) (Some x) (find (nat_le start) xs) t
          ∙ find-least xs start k (elim h [ inl e ↦ absurd (let below : x < start = leb-false start x t in omega arith) | inr there ↦ there ]) le (λ q there. least q (inr there)) (suc x) r.1
    ]

pub find-none : (xs : List ℕ) (start : ℕ) → ((q : ℕ) → Has xs q → q < start) → find (nat_le start) xs ≡ None
find-none [] start below = refl
find-none (x ∷ xs) start below =
    elim (cases_Bool (nat_le start x)) [
      | inl t ↦ absurd (let lt : x < start = below x (inl refl) in let le : start ≤ x = leb-true start x t in omega arith)
      | inr t ↦ cond-false (nat_le start x) (Some x) (find (nat_le start) xs) t ∙ find-none xs start (λ q h. below q (inr h))
    ]

bit_at-shr : (word start i : ℕ) → bit_at (word / 2 ^ start) i ≡ bit_at word (start + i)
bit_at-shr word start i = ap (λ n. n % 2) (shr-shr word start i)

pub first-from : (word start : ℕ) → word < 2 ^ 64 → 0 < word / 2 ^ start → find (nat_le start) (places word) ≡ Some (start + trailing_zeros w64 (word / 2 ^ start))
first-from word start fits some =
    let least : ℕ = trailing_zeros w64 (word / 2 ^ start) in
    let is = bit_at-trailing_zeros w64 (word / 2 ^ start) some (let le : word / 2 ^ start ≤ word = shr_le word start in omega arith) in
    find-least (places word) start (start + least) (word-has word (start + least) fits (sym (bit_at-shr word start least) ∙ is.1)) (omega arith)
    (λ q h ge. elim (cases_lt q (start + least)) [
      | inl lt ↦ absurd
          (let none : bit_at (word / 2 ^ start) (q - start) ≡ 0 = is.2 (q - start) (omega arith) in
          let same : bit_at (word / 2 ^ start) (q - start) ≡ bit_at word q = bit_at-shr word start (q - start) ∙ ap (bit_at word) (omega arith) in
          let one : bit_at word q ≡ 1 = (has-word word q h).1 in omega arith)
      | inr le ↦ le
    ])
    0 (rise-word word)

pub none-from : (word start : ℕ) → word / 2 ^ start ≡ 0 → find (nat_le start) (places word) ≡ None
none-from word start none =
    find-none (places word) start (λ q h. elim (cases_lt q start) [
      | inl lt ↦ lt
      | inr ge ↦ absurd
          (let same : bit_at (word / 2 ^ start) (q - start) ≡ bit_at word q = bit_at-shr word start (q - start) ∙ ap (bit_at word) (omega arith) in
          let zero : bit_at (word / 2 ^ start) (q - start) ≡ 0 = ap (λ n. bit_at n (q - start)) none ∙ bit_at-zero (q - start) in
          let one : bit_at word q ≡ 1 = (has-word word q h).1 in omega arith)
    ])

pub none-above : (word start : ℕ) → 64 ≤ start → find (nat_le start) (places word) ≡ None
none-above word start ge = find-none (places word) start (λ q h. let lt : q < 64 = (has-word word q h).0 in omega arith)

none-left : (xs : List ℕ) → ((q : ℕ) → Has xs q → ⊥) → xs ≡ []
none-left [] f = refl
none-left (x ∷ xs) f = absurd (f x (inl refl))

pub no-places : places 0 ≡ []
no-places = none-left (places 0) (λ q h. let one : bit_at 0 q ≡ 1 = (has-word 0 q h).1 in omega (arith, bit_at-zero q))
