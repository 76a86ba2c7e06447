-- The word of a set of keys.
use Rattle.std.specs.Prelude.{ℕ, zero, suc, List, [], ◌∷◌, ◌++◌, ◌+◌, ◌*◌, ◌%◌, ◌^◌, ◌<◌, ◌≡◌, ◌≢◌, ◌==◌}
use Rattle.std.specs.Int.{bit_at}
use Rattle.std.proofs.Common.{ap, ◌∙◌, arith, inl, inr, eqb-true}
use Rattle.std.proofs.Math.Nat.{mod-eq_of_lt}
use Rattle.std.proofs.lemmas.Bool.{cond-true, cond-false, cases_Bool, eqb-false}
use Rattle.std.proofs.lemmas.Nat.{mod-pow-add}
use Rattle.std.proofs.lemmas.Nat.Bits.{bit_at-lt}
use Rattle.stamp_clock.specs.Places.{places_below, places}
use Rattle.stamp_clock.specs.declared.keys.KeySet.TheInside.{Inside}

-- the word whose bits at these places are 1
abbrev pub word_of : List ℕ → ℕ
word_of [] = 0
word_of (key ∷ keys) = 2 ^ key + word_of keys

word_of-append : (xs : List ℕ) (k : ℕ) → word_of (xs ++ k ∷ []) ≡ word_of xs + 2 ^ k
word_of-append [] k = omega arith
word_of-append (x ∷ xs) k = omega (arith, word_of-append xs k)

-- one bit more
pub mod-pow-suc : (word n : ℕ) → word % 2 ^ suc n ≡ bit_at word n * 2 ^ n + word % 2 ^ n
mod-pow-suc word n = ap (λ k. word % 2 ^ k) (let e : suc n ≡ 1 + n = omega arith in e) ∙ mod-pow-add word 1 n

word_of-below : (n word : ℕ) → word_of (places_below n word) ≡ word % 2 ^ n
unfolding places_below
word_of-below zero word = omega arith
word_of-below (suc n) word =
    let before : word_of (places_below n word) ≡ word % 2 ^ n = word_of-below n word in
    let step : word % 2 ^ suc n ≡ bit_at word n * 2 ^ n + word % 2 ^ n = mod-pow-suc word n in
    elim (cases_Bool (bit_at word n == 1)) [
      | inl t ↦ ap word_of (cond-true (bit_at word n == 1) (places_below n word ++ n ∷ []) (places_below n word) t)
          ∙ word_of-append (places_below n word) n
          ∙ (let same : bit_at word n * 2 ^ n ≡ 1 * 2 ^ n = ap (λ b. b * 2 ^ n) (eqb-true (bit_at word n) 1 t) in omega arith)
      | inr t ↦ ap word_of (cond-false (bit_at word n == 1) (places_below n word ++ n ∷ []) (places_below n word) t)
          ∙ (let none : bit_at word n ≡ 0 = (let lt : bit_at word n < 2 = bit_at-lt word n in let ne : bit_at word n ≢ 1 = eqb-false (bit_at word n) 1 t in omega arith) in
          let same : bit_at word n * 2 ^ n ≡ 0 * 2 ^ n = ap (λ b. b * 2 ^ n) none in omega arith)
    ]

-- a word of 64 bits is the word of its places
pub word_of-places : (a : Inside) → a.word < 2 ^ 64 → record { word = word_of (places a.word) } ≡ a
unfolding places
word_of-places a h = ap (λ word. record { word = word }) (word_of-below 64 a.word ∙ mod-eq_of_lt h)
