-- Stamps, walked over pair by pair.
use Rattle.std.proofs.Common.{◌≡◌, ◌∙◌, refl, sym, ap, subst, ℕ, suc, ◌<◌, arith, List, ◌∷◌, ◌++◌, append_assoc, []}
use Rattle.std.specs.Prelude.{All}
use Rattle.propagation.specs.Stamps.{Stamps, keys}
use Rattle.trace_text.specs.Lines.{after_commas, comma_list}
use Rattle.trace_text.specs.Naming.{Naming}
use Rattle.trace_text.specs.Notes.{key_text}

first-named : (count : ℕ) (x : ℕ × ℕ) (rest : Stamps) → All (λ pair. pair.0 < count) (x ∷ rest) → x.0 < count
first-named count x rest h = h 0 x (omega arith)

rest-named : (count : ℕ) (x : ℕ × ℕ) (rest : Stamps) → All (λ pair. pair.0 < count) (x ∷ rest) → All (λ pair. pair.0 < count) rest
rest-named count x rest h = λ k d lt. h (suc k) d (omega (arith, lt))

pub named-first : (count : ℕ) (left : Stamps) (x : ℕ × ℕ) (rest : Stamps) → left ≡ x ∷ rest → All (λ pair. pair.0 < count) left → x.0 < count
named-first count left x rest e h = first-named count x rest (subst (λ (S : Stamps). All (λ pair. pair.0 < count) S) e h)

pub named-rest : (count : ℕ) (left : Stamps) (x : ℕ × ℕ) (rest : Stamps) → left ≡ x ∷ rest → All (λ pair. pair.0 < count) left → All (λ pair. pair.0 < count) rest
named-rest count left x rest e h = rest-named count x rest (subst (λ (S : Stamps). All (λ pair. pair.0 < count) S) e h)

-- one item more is printed, and one is left less
pub after_commas-next : (text : ℕ × ℕ → List ℕ) (out one two whole : List ℕ) (left : Stamps) (x : ℕ × ℕ) (rest : Stamps) → left ≡ x ∷ rest →
    out ++ after_commas text left ≡ whole → one ≡ out ++ 44 ∷ [] → two ≡ one ++ text x → two ++ after_commas text rest ≡ whole
after_commas-next text out one two whole left x rest e h p q =
    ap (λ (t : List ℕ). t ++ after_commas text rest) (q ∙ ap (λ (t : List ℕ). t ++ text x) p ∙ append_assoc out (44 ∷ []) (text x))
    ∙ append_assoc out (44 ∷ text x) (after_commas text rest) ∙ ap (λ (S : Stamps). out ++ after_commas text S) (sym e) ∙ h

after_commas-keys : (name : Naming) (S : Stamps) → after_commas (key_text name) S ≡ after_commas name (keys S)
after_commas-keys name [] = refl
after_commas-keys name (x ∷ rest) = ap (λ (t : List ℕ). 44 ∷ name x.0 ++ t) (after_commas-keys name rest)

-- the keys are comma_list by their names
pub keys_comma_list : (name : Naming) (S : Stamps) → comma_list (key_text name) S ≡ comma_list name (keys S)
keys_comma_list name [] = refl
keys_comma_list name (x ∷ rest) = ap (λ (t : List ℕ). name x.0 ++ t) (after_commas-keys name rest)
