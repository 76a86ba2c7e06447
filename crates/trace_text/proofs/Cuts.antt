-- Where bytes are cut.
use Rattle.std.proofs.Common.{true, false, Bool, not, refl, ◌≡◌, ◌≢◌, ◌∙◌, sym, ap, subst, ℕ, zero, suc, ◌<◌, ◌+◌, arith, List, [], ◌∷◌, ◌++◌, append_assoc, length, get_or, take}
use Rattle.std.specs.Str.{bytes_eq}
use Rattle.std.proofs.lemmas.Slice.Eq.{bytes_eq-Decides}
use Rattle.trace_text.specs.Inside.Cutting.{Lacks}
use Rattle.trace_text.proofs.Words.{has_stop, one_back}

lacks-next : (stop : ℕ) (bytes : List ℕ) (at d : ℕ) → at < length bytes → Lacks stop (take at bytes) → get_or bytes at d ≢ stop → Lacks stop (take (suc at) bytes)
lacks-next stop [] at d lt free other = absurd (omega (arith, lt))
lacks-next stop (b ∷ bytes) zero d lt free other = (other, tt)
lacks-next stop (b ∷ bytes) (suc at) d lt free other = (free.0, lacks-next stop bytes at d (omega (arith, lt)) free.1 other)

pub lacks-more : (stop : ℕ) (bytes : List ℕ) (at d : ℕ) → at < length bytes → Lacks stop (take at bytes) → get_or bytes at d ≢ stop → Lacks stop (take (at + 1) bytes)
lacks-more stop bytes at d lt free other =
    let next : suc at ≡ at + 1 = omega arith in
    subst (λ (n : ℕ). Lacks stop (take n bytes)) next (lacks-next stop bytes at d lt free other)

-- ---- a word between the last two blanks

abbrev IsCutAtLast : List ℕ → List ℕ → List ℕ → Type 0
IsCutAtLast bytes front last = (bytes ≡ front ++ 32 ∷ last) × Lacks 32 last

-- what stands before the last blank
front_is : (word bytes a b : List ℕ) → IsCutAtLast bytes a b → (front last : List ℕ) → Lacks 32 last → bytes ≡ front ++ 32 ∷ (word ++ 32 ∷ last) → a ≡ front ++ 32 ∷ word
front_is word bytes a b cut front last lacks e = (one_back 32 a (front ++ 32 ∷ word) b last cut.1 lacks (sym cut.0 ∙ e ∙ sym (append_assoc front (32 ∷ word) (32 ∷ last)))).0

-- no blank
pub no_blank : (word bytes : List ℕ) → Lacks 32 bytes → (front last : List ℕ) → Lacks 32 last → bytes ≢ front ++ 32 ∷ (word ++ 32 ∷ last)
no_blank word bytes none front last lacks e = has_stop 32 front (word ++ 32 ∷ last) (subst (Lacks 32) e none)

-- one alone
pub one_blank : (word bytes a b : List ℕ) → IsCutAtLast bytes a b → Lacks 32 a → (front last : List ℕ) → Lacks 32 last → bytes ≢ front ++ 32 ∷ (word ++ 32 ∷ last)
one_blank word bytes a b cut none front last lacks e = has_stop 32 front word (subst (Lacks 32) (front_is word bytes a b cut front last lacks e) none)

-- another word
pub other_word : (word bytes a b c d : List ℕ) → IsCutAtLast bytes a b → IsCutAtLast a c d → Lacks 32 word → d ≢ word → (front last : List ℕ) → Lacks 32 last → bytes ≢ front ++ 32 ∷ (word ++ 32 ∷ last)
other_word word bytes a b c d cut inner plain other front last lacks e =
    other (one_back 32 c front d word inner.1 plain (sym inner.0 ∙ front_is word bytes a b cut front last lacks e)).1

-- the word
pub word_cut : (word bytes a b c d : List ℕ) → IsCutAtLast bytes a b → IsCutAtLast a c d → d ≡ word → (bytes ≡ c ++ 32 ∷ (word ++ 32 ∷ b)) × Lacks 32 b
word_cut word bytes a b c d cut inner same =
    (cut.0 ∙ ap (λ (t : List ℕ). t ++ 32 ∷ b) (inner.0 ∙ ap (λ (t : List ℕ). c ++ 32 ∷ t) same) ∙ append_assoc c (32 ∷ word) (32 ∷ b), cut.1)

-- ---- a test of two slices

not_false : (b : Bool) → not b ≡ false → b ≡ true
not_false true e = refl
not_false false e = sym e

pub differ : (xs ys : List ℕ) (unequal : Bool) → unequal ≡ not (bytes_eq xs ys) → unequal ≡ true → xs ≢ ys
differ xs ys unequal is met e =
    let alike : bytes_eq xs ys ≡ true = (bytes_eq-Decides xs ys).1 e in
    let never : true ≡ false = sym met ∙ is ∙ ap not alike in
    absurd (cc never)

pub same : (xs ys : List ℕ) (unequal : Bool) → unequal ≡ not (bytes_eq xs ys) → unequal ≡ false → xs ≡ ys
same xs ys unequal is unmet = (bytes_eq-Decides xs ys).0 (not_false (bytes_eq xs ys) (sym is ∙ unmet))
