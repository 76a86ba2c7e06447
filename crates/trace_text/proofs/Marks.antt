-- The marks that trace lines begin with.
use Rattle.std.proofs.Common.{◌≡◌, ◌≢◌, ◌∙◌, sym, ap, ap₂, refl, ℕ, arith, Bool, true, false, ◌&&◌, ◌||◌, nat_eq, List, [], ◌∷◌, ◌++◌, length, take, drop, get_or, Option, Some, None}
use lib.ListN.{take-append-drop}
use Rattle.std.proofs.lemmas.Slice.Eq.{bytes_eq-Decides}
use Rattle.std.specs.List.{starts_with}
use Rattle.std.specs.Prelude.{codes}
use Rattle.std.specs.Str.{bytes_eq}
use Rattle.node_core.specs.declared.entry.Entry.{Entry}
use Rattle.trace_text.specs.Entries.{IsOwnedEntry}
use Rattle.trace_text.specs.Inside.Cutting.{Lacks}
use Rattle.trace_text.specs.Lines.{entry_body, entry_text}
use Rattle.trace_text.specs.Naming.{Naming}
use Rattle.trace_text.specs.Reading.{ReadsAs, is_ended, is_passed}
use Rattle.trace_text.proofs.Words.{lacks_by}

two_way : (a b : Bool) → (a ≡ true → b ≡ true) → (b ≡ true → a ≡ true) → a ≡ b
two_way true b p q = sym (p refl)
two_way false true p q = q refl
two_way false false p q = refl

-- a mark that has no LF begins a line with its LF where it begins the line without
front : (mark body : List ℕ) → Lacks 10 mark → mark ≡ take (length mark) (body ++ 10 ∷ []) → mark ≡ take (length mark) body
front [] body lacks e = refl
front (x ∷ mark) [] lacks e = absurd (lacks.0 (ap (λ (l : List ℕ). get_or l 0 0) e))
front (x ∷ mark) (b ∷ body) lacks e = ap₂ (λ (y : ℕ) (ys : List ℕ). y ∷ ys) (ap (λ (l : List ℕ). get_or l 0 0) e) (front mark body lacks.1 (ap (drop 1) e))

longer : (mark body : List ℕ) → mark ≡ take (length mark) body → mark ≡ take (length mark) (body ++ 10 ∷ [])
longer [] body e = refl
longer (x ∷ mark) [] e = absurd (omega (arith, ap length e))
longer (x ∷ mark) (b ∷ body) e = ap₂ (λ (y : ℕ) (ys : List ℕ). y ∷ ys) (ap (λ (l : List ℕ). get_or l 0 0) e) (longer mark body (ap (drop 1) e))

same_start : (mark body : List ℕ) → Lacks 10 mark → starts_with nat_eq (body ++ 10 ∷ []) mark ≡ starts_with nat_eq body mark
same_start mark body lacks =
    let whole = bytes_eq-Decides mark (take (length mark) (body ++ 10 ∷ [])) in
    let part = bytes_eq-Decides mark (take (length mark) body) in
    two_way (starts_with nat_eq (body ++ 10 ∷ []) mark) (starts_with nat_eq body mark) (λ t. part.1 (front mark body lacks (whole.0 t))) (λ t. whole.1 (longer mark body (part.0 t)))

pub ended_line : (line : List ℕ) → is_ended (line ++ 10 ∷ []) ≡ true
ended_line [] = refl
ended_line (b ∷ []) = refl
ended_line (b ∷ c ∷ line) = ended_line (c ∷ line)

pub passed_is : (body : List ℕ) (a b : Bool) → a ≡ starts_with nat_eq body (codes "# step ") → b ≡ starts_with nat_eq body (codes "# sources ") → (a || b) ≡ is_passed (body ++ 10 ∷ [])
passed_is body a b p q =
    let line : List ℕ = body ++ 10 ∷ [] in
    let step : a ≡ starts_with nat_eq line (codes "# step ") = p ∙ sym (same_start (codes "# step ") body (lacks_by 10 (codes "# step ") refl)) in
    let sources : b ≡ starts_with nat_eq line (codes "# sources ") = q ∙ sym (same_start (codes "# sources ") body (lacks_by 10 (codes "# sources ") refl)) in
    ap₂ (λ (x y : Bool). x || y) step sources ∙ ap (λ (t : Bool). t && (starts_with nat_eq line (codes "# step ") || starts_with nat_eq line (codes "# sources "))) (sym (ended_line body))

-- ---- the mark of a log line

module _ (name : Naming) (count : ℕ) where
  -- without the mark the line is that of none
  pub no_mark : (line : List ℕ) → bytes_eq (take 6 line) (codes "# log ") ≡ false → (x : ℕ × Entry) → IsOwnedEntry count x → line ≢ entry_body name x.0 x.1
  no_mark line other x is e =
      let begins : take 6 line ≡ codes "# log " = ap (take 6) e in
      let never : true ≡ false = sym ((bytes_eq-Decides (take 6 line) (codes "# log ")).1 begins) ∙ other in
      absurd (cc never)

  -- what stands behind the mark tells the line
  pub log_read : (line behind : List ℕ) → bytes_eq (take 6 line) (codes "# log ") ≡ true → behind ≡ drop 6 line → (result : Option (ℕ × Entry)) →
      ReadsAs (IsOwnedEntry count) (λ x. name x.0 ++ 32 ∷ entry_text name x.1) behind result → ReadsAs (IsOwnedEntry count) (λ x. entry_body name x.0 x.1) line result
  log_read line behind mark rest (Some x) read =
      let begins : take 6 line ≡ codes "# log " = (bytes_eq-Decides (take 6 line) (codes "# log ")).0 mark in
      (read.0, sym (take-append-drop 6 line) ∙ ap₂ (λ (a b : List ℕ). a ++ b) begins (sym rest ∙ read.1))
  log_read line behind mark rest None read = λ x is e. read x is (rest ∙ ap (drop 6) e)
