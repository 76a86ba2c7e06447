-- What stands between quotes, a run of plain bytes at a time.
use Rattle.std.proofs.Common.{◌≡◌, refl, sym, ap, ◌∙◌, ℕ, suc, ◌+◌, ◌-◌, ◌<◌, List, [], ◌∷◌, ◌++◌, length, take, drop, get_or, true, false, Some, None, arith, append_assoc}
use Rattle.std.proofs.lemmas.Bool.Decides.{nat_tests}
use Rattle.std.proofs.lemmas.List.{take_rest}
use Rattle.std.proofs.lemmas.List.Sums.{split_at_first, passes_at_first, fails_before_first}
use Rattle.std.proofs.lemmas.Grind.{flat_map-append, common_steps}
use Rattle.std.specs.List.{flat_map, position, position_or_len}
use Rattle.svc_value.specs.Printed.{is_escaped, quoted_byte}

-- a byte that is not escaped stands for itself
pub quoted_plain : (b : ℕ) → is_escaped b ≡ false → quoted_byte b ≡ b ∷ []
quoted_plain b h = grind (arith, nat_tests)

-- so do many
pub all_plain : (bs : List ℕ) → ((k : ℕ) → k < length bs → is_escaped (get_or bs k 0) ≡ false) → flat_map quoted_byte bs ≡ bs
all_plain [] h = refl
all_plain (b ∷ bs) h =
    let here : is_escaped b ≡ false = h 0 (omega arith) in
    let rest : flat_map quoted_byte bs ≡ bs = all_plain bs (λ k l. h (suc k) (omega arith)) in
    ap (λ x. x ++ flat_map quoted_byte bs) (quoted_plain b here) ∙ ap (λ x. b ∷ x) rest

-- where the first escaped byte stands
pub first_escaped : (bs : List ℕ) (n : ℕ) → Some n ≡ position is_escaped bs → (n ≡ position_or_len is_escaped bs) × (position_or_len is_escaped bs < length bs)
first_escaped bs n e = grind (arith, nat_tests)

-- it is escaped
pub escaped_there : (bs : List ℕ) (n : ℕ) → Some n ≡ position is_escaped bs → is_escaped (get_or bs n 0) ≡ true
escaped_there bs n e =
    let at = first_escaped bs n e in
    ap (λ k. is_escaped (get_or bs k 0)) at.0 ∙ passes_at_first is_escaped bs 0 at.1

-- the bytes up to it, what stands for it, and the rest
pub quoted_next : (bs : List ℕ) (n : ℕ) → Some n ≡ position is_escaped bs
    → flat_map quoted_byte bs ≡ (take n bs ++ quoted_byte (get_or bs n 0)) ++ flat_map quoted_byte (take (length bs - (n + 1)) (drop (n + 1) bs))
quoted_next bs n e =
    let at = first_escaped bs n e in
    let m = position_or_len is_escaped bs in
    let front : flat_map quoted_byte (take m bs) ≡ take m bs = all_plain (take m bs) (λ k l. grind (arith, common_steps, fails_before_first is_escaped bs k 0)) in
    let whole : bs ≡ take m bs ++ (get_or bs m 0 ∷ drop (m + 1) bs) = split_at_first is_escaped bs 0 at.1 in
    let split : flat_map quoted_byte bs ≡ take m bs ++ (quoted_byte (get_or bs m 0) ++ flat_map quoted_byte (drop (m + 1) bs)) =
    ap (flat_map quoted_byte) whole ∙ flat_map-append quoted_byte (take m bs) _ ∙ ap (λ x. x ++ flat_map quoted_byte (get_or bs m 0 ∷ drop (m + 1) bs)) front in
    rw (take_rest, at.0) (split ∙ sym (append_assoc (take m bs) (quoted_byte (get_or bs m 0)) _))

-- no byte is escaped
pub quoted_whole : (bs : List ℕ) → None ≡ position is_escaped bs → flat_map quoted_byte bs ≡ bs
quoted_whole bs e = all_plain bs (λ k l. fails_before_first is_escaped bs k 0 (grind (arith, nat_tests)))

-- a run and an escape more of what is printed
pub prints_more : (init text out rest run escaped : List ℕ) (n : ℕ) → out ++ flat_map quoted_byte rest ≡ (init ++ 34 ∷ []) ++ flat_map quoted_byte text
    → run ≡ out ++ take n rest → escaped ≡ run ++ quoted_byte (get_or rest n 0) → Some n ≡ position is_escaped rest
    → escaped ++ flat_map quoted_byte (take (length rest - (n + 1)) (drop (n + 1) rest)) ≡ (init ++ 34 ∷ []) ++ flat_map quoted_byte text
prints_more init text out rest run escaped n so_far added behind at =
    let tail = flat_map quoted_byte (take (length rest - (n + 1)) (drop (n + 1) rest)) in
    ap (λ x. x ++ tail) (behind ∙ ap (λ x. x ++ quoted_byte (get_or rest n 0)) added ∙ append_assoc out (take n rest) _)
    ∙ append_assoc out _ tail ∙ ap (λ x. out ++ x) (sym (quoted_next rest n at)) ∙ so_far

-- the last run and the closing quote
pub prints_all : (init text out rest run whole : List ℕ) → out ++ flat_map quoted_byte rest ≡ (init ++ 34 ∷ []) ++ flat_map quoted_byte text
    → None ≡ position is_escaped rest → run ≡ out ++ rest → whole ≡ run ++ 34 ∷ [] → whole ≡ init ++ 34 ∷ (flat_map quoted_byte text ++ 34 ∷ [])
prints_all init text out rest run whole so_far none added closed =
    closed ∙ ap (λ x. x ++ 34 ∷ []) (added ∙ ap (λ x. out ++ x) (sym (quoted_whole rest none)) ∙ so_far ∙ append_assoc init _ _) ∙ append_assoc init _ _
