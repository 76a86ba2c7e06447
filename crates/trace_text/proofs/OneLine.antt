-- What stands in the line of an entry is told by its text: picks, stamps and computations.
use Rattle.std.proofs.Common.{◌≡◌, ◌∙◌, sym, ap₂, subst, refl, ℕ, ◌<◌, ◌^◌, arith, List, [], ◌∷◌, ◌++◌, append_assoc, length}
use Rattle.std.proofs.lemmas.Fmt.{decimal_injective}
use Rattle.std.specs.Fmt.{decimal}
use Rattle.std.specs.Prelude.{codes}
use Rattle.propagation.specs.Stamps.{Stamps}
use Rattle.trace_text.specs.Naming.{Naming, AreNamed, AreNames}
use Rattle.trace_text.specs.Lines.{stamp_text, stamps_text, picks_text}
use Rattle.trace_text.specs.Entries.{AreStampsOf}
use Rattle.trace_text.specs.Inside.Cutting.{Lacks}
use Rattle.trace_text.proofs.Words.{Lacks-append, Each, each_of, AreTold, comma_list-lacks, one_comma_list, one_split, one_back}
use Rattle.trace_text.proofs.Texts.{decimal-lacks, decimal-some, name-lacks}

pub small : (clock : ℕ) → clock < 2 ^ 32 → clock < 2 ^ 64
small clock lt = omega (arith, lt)

-- ---- picks

abbrev pub IsPick : ℕ → Type 0
IsPick pick = pick < 2 ^ 64

pub picks_told : AreTold IsPick decimal
picks_told = record {
  lacks = λ n small. decimal-lacks 44 n small refl;
  some = λ n small. decimal-some n small;
  one = λ m n p q e. decimal_injective m n p q e;
}

pub picks-lacks : (picks : List ℕ) → Each IsPick picks → Lacks 32 (picks_text picks)
picks-lacks [] each = ((λ e. omega (arith, e)), tt)
picks-lacks (pick ∷ picks) each = comma_list-lacks 32 IsPick decimal (λ e. omega (arith, e)) (λ n small. decimal-lacks 32 n small refl) (pick ∷ picks) each

no_dash : (pick : ℕ) (picks : List ℕ) → Each IsPick (pick ∷ picks) → codes "-" ≡ picks_text (pick ∷ picks) → ⊥
no_dash pick picks each e =
    let clear : Lacks 45 (picks_text (pick ∷ picks)) = comma_list-lacks 45 IsPick decimal (λ e. omega (arith, e)) (λ n small. decimal-lacks 45 n small refl) (pick ∷ picks) each in
    (subst (Lacks 45) (sym e) clear).0 refl

pub one_picks : (a b : List ℕ) → Each IsPick a → Each IsPick b → picks_text a ≡ picks_text b → a ≡ b
one_picks [] [] p q e = refl
one_picks [] (y ∷ ys) p q e = absurd (no_dash y ys q e)
one_picks (x ∷ xs) [] p q e = absurd (no_dash x xs p (sym e))
one_picks (x ∷ xs) (y ∷ ys) p q e = one_comma_list IsPick decimal picks_told (x ∷ xs) (y ∷ ys) p q e

-- ---- stamps

-- a key that is a service, and a clock
abbrev pub IsStamp : ℕ → ℕ × ℕ → Type 0
IsStamp count pair = (pair.0 < count) × (pair.1 < 2 ^ 32)

pub are_stamps : (count : ℕ) (stamps : Stamps) → AreStampsOf count stamps → Each (IsStamp count) stamps
are_stamps count stamps h = each_of (IsStamp count) stamps (λ k d lt. (h.named k d lt, h.clocks k d lt))

module _ (name : Naming) (count : ℕ) (named : AreNamed name count) where
  pub blank-lacks : (n : ℕ) → n < count → Lacks 32 (name n)
  blank-lacks n lt = name-lacks 32 (name n) (named n lt) refl refl

  pub stamps-lacks : (stamps : Stamps) → AreStampsOf count stamps → Lacks 32 (stamps_text name stamps)
  stamps-lacks stamps h =
      comma_list-lacks 32 (IsStamp count) (stamp_text name) (λ e. omega (arith, e))
      (λ pair is. Lacks-append 32 (name pair.0) (64 ∷ decimal pair.1) (blank-lacks pair.0 is.0) ((λ e. omega (arith, e)), decimal-lacks 32 pair.1 (small pair.1 is.1) refl))
      stamps (are_stamps count stamps h)

module _ (name : Naming) (count : ℕ) (names : AreNames name count) where
  pub stamps_told : AreTold (IsStamp count) (stamp_text name)
  stamps_told = record {
    lacks = λ pair is. Lacks-append 44 (name pair.0) (64 ∷ decimal pair.1) (name-lacks 44 (name pair.0) (names.named pair.0 is.0) refl refl) ((λ e. omega (arith, e)), decimal-lacks 44 pair.1 (small pair.1 is.1) refl);
    some = λ pair is. more (name pair.0) (decimal pair.1);
    one = λ x y p q e. one x y p q e;
  }
    where
      more : (xs ys : List ℕ) → 0 < length (xs ++ 64 ∷ ys)
      more [] ys = omega arith
      more (x ∷ xs) ys = omega arith

      one : (x y : ℕ × ℕ) → IsStamp count x → IsStamp count y → stamp_text name x ≡ stamp_text name y → x ≡ y
      one x y p q e =
          let parts = one_split 64 (name x.0) (name y.0) (decimal x.1) (decimal y.1) (name-lacks 64 (name x.0) (names.named x.0 p.0) refl refl) (name-lacks 64 (name y.0) (names.named y.0 q.0) refl refl) e in
          ap₂ (λ (key clock : ℕ). (key, clock)) (names.apart x.0 y.0 p.0 q.0 parts.0) (decimal_injective x.1 y.1 (small x.1 p.1) (small y.1 q.1) parts.1)

  pub one_stamps : (a b : Stamps) → AreStampsOf count a → AreStampsOf count b → stamps_text name a ≡ stamps_text name b → a ≡ b
  one_stamps a b p q e = one_comma_list (IsStamp count) (stamp_text name) stamps_told a b (are_stamps count a p) (are_stamps count b q) e

-- ---- words between blanks

-- what stands before and behind the last such word
pub one_word : (word xs ys a b : List ℕ) → Lacks 32 word → Lacks 32 a → Lacks 32 b → xs ++ 32 ∷ (word ++ 32 ∷ a) ≡ ys ++ 32 ∷ (word ++ 32 ∷ b) → (xs ≡ ys) × (a ≡ b)
one_word word xs ys a b w p q e =
    let behind = one_back 32 (xs ++ 32 ∷ word) (ys ++ 32 ∷ word) a b p q (append_assoc xs (32 ∷ word) (32 ∷ a) ∙ e ∙ sym (append_assoc ys (32 ∷ word) (32 ∷ b))) in
    let before = one_back 32 xs ys word word w w behind.0 in
    (before.0, behind.1)

abbrev pub with_word : List ℕ
with_word = 119 ∷ 105 ∷ 116 ∷ 104 ∷ []

abbrev pub picks_word : List ℕ
picks_word = 112 ∷ 105 ∷ 99 ∷ 107 ∷ 115 ∷ []

pub with-lacks : Lacks 32 with_word
with-lacks = ((λ h. omega (arith, h)), ((λ h. omega (arith, h)), ((λ h. omega (arith, h)), ((λ h. omega (arith, h)), tt))))

pub picks_word-lacks : Lacks 32 picks_word
picks_word-lacks = ((λ h. omega (arith, h)), ((λ h. omega (arith, h)), ((λ h. omega (arith, h)), ((λ h. omega (arith, h)), ((λ h. omega (arith, h)), tt)))))

-- the text of a computation: a value, and behind it the words `with` and `picks` between blanks
abbrev pub three_parts : List ℕ → List ℕ → List ℕ → List ℕ
three_parts value stamps picks = value ++ (codes " with " ++ (stamps ++ (codes " picks " ++ picks)))

pub regrouped : (value stamps picks : List ℕ) → three_parts value stamps picks ≡ (value ++ 32 ∷ (with_word ++ 32 ∷ stamps)) ++ 32 ∷ (picks_word ++ 32 ∷ picks)
regrouped value stamps picks = sym (append_assoc value (32 ∷ (with_word ++ 32 ∷ stamps)) (32 ∷ (picks_word ++ 32 ∷ picks)))

-- the value, the stamps and the picks are told, whatever the value's text is
pub one_computed : (v w s t p q : List ℕ) → Lacks 32 s → Lacks 32 t → Lacks 32 p → Lacks 32 q → three_parts v s p ≡ three_parts w t q → (v ≡ w) × (s ≡ t) × (p ≡ q)
one_computed v w s t p q fs ft fp fq e =
    let last = one_word picks_word (v ++ 32 ∷ (with_word ++ 32 ∷ s)) (w ++ 32 ∷ (with_word ++ 32 ∷ t)) p q picks_word-lacks fp fq (sym (regrouped v s p) ∙ e ∙ regrouped w t q) in
    let first = one_word with_word v w s t with-lacks fs ft last.0 in
    (first.0, first.1, last.1)
