-- A run of plain bytes in a quoted text, and what stops it.
use Rattle.std.proofs.Common.{◌≡◌, ℕ, zero, suc, ◌+◌, ◌-◌, ◌<◌, ◌≤◌, ◌⊎◌, inl, inr, ⊎_elim, Bool, true, false, cond, length, drop, take, get_or, List, [], ◌∷◌, Option, Some, refl, sym, ap, subst, ◌∙◌, arith, drop-cons, add-one}
use Rattle.std.specs.Prelude.{◌==◌, ◌||◌}
use Rattle.std.proofs.lemmas.Bool.{eqb-true}
use Rattle.std.proofs.Math.Seq.{drop-length}
use Rattle.memchr.specs.Find.{is_byte2}
use Rattle.svc_token.specs.Cutting.{closing, StopsOrEnds}

neither : (p q : Bool) → ((p || q) ≡ true → ⊥) → (p ≡ false) × (q ≡ false)
neither true q h = absurd (h refl)
neither false true h = absurd (h refl)
neither false false h = (refl, refl)

either : (p q : Bool) → (p || q) ≡ true → (p ≡ true) ⊎ (q ≡ true)
either true q h = inl refl
either false q h = inr h

-- bytes that are neither a quote nor a backslash are passed
pub plain_passed : (bytes : List ℕ) (k n : ℕ) → k ≤ length bytes → ((j : ℕ) → 0 ≤ j → j < k → is_byte2 34 92 (get_or bytes j 0) ≡ true → ⊥)
    → closing n false bytes ≡ closing (n + k) false (drop k bytes)
plain_passed bytes zero n l h = let same : n ≡ n + 0 = omega arith in ap (λ m. closing m false bytes) same
plain_passed [] (suc k) n l h = absurd (omega arith)
plain_passed (b ∷ bytes) (suc k) n l h =
    let other = neither (b == 34) (b == 92) (h 0 (omega arith) (omega arith)) in
    let count : (n + 1) + k ≡ n + suc k = omega arith in
    ap (λ (t : Bool). cond t (Some (n + 1)) (closing (n + 1) (b == 92) bytes)) other.0
    ∙ ap (λ (t : Bool). closing (n + 1) t bytes) other.1
    ∙ plain_passed bytes k (n + 1) (omega arith) (λ j g m. h (suc j) (omega arith) (omega arith))
    ∙ ap (λ m. closing m false (drop k bytes)) count

-- the byte that stops a run
pub stops_there : (bytes : List ℕ) (k : ℕ) → k < length bytes → is_byte2 34 92 (get_or bytes k 0) ≡ true → StopsOrEnds (drop k bytes)
stops_there bytes k below e =
    let b = get_or bytes k 0 in
    let split : drop k bytes ≡ b ∷ drop (k + 1) bytes = rw (add-one, drop-cons bytes k 0) refl in
    subst StopsOrEnds (sym split) (⊎_elim (λ g. inl (eqb-true b 34 g)) (λ g. inr (eqb-true b 92 g)) (either (b == 34) (b == 92) e))

pub ends_there : (bytes : List ℕ) → StopsOrEnds (drop (length bytes) bytes)
ends_there bytes = subst StopsOrEnds (sym (drop-length bytes)) tt
