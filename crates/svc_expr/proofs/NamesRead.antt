-- The names of an expression: how many there are, that they differ, and that they are names.
use Rattle.std.proofs.Common.{◌≡◌, ℕ, ◌+◌, ◌<◌, ◌≤◌, max, true, false, not, cond, if◌then◌else◌, inl, inr, ◌⊎◌, List, [], ◌∷◌, ◌++◌, map, length, sym, ap, subst, ◌∙◌, length-append, arith}
use Rattle.std.specs.Str.{bytes_eq}
use Rattle.std.proofs.lemmas.Bool.{lt-ltb, le-ltb, cases_lt}
use Rattle.propagation.specs.Lists.{Has}
use Rattle.propagation.proofs.Lists.{Has-append_cases}
use Rattle.svc_token.specs.declared.token.Token.{Token}
use Rattle.svc_token.specs.declared.token.Token.TheVariants.{Name}
use Rattle.svc_token.specs.Cutting.{AreNamed}
use Rattle.svc_token.specs.Word.{IsName}
use Rattle.svc_expr.specs.Tree.{Tree}
use Rattle.svc_expr.specs.Types.{name_count, mentions}
use Rattle.svc_expr.specs.Grammar.{name_index, with_names, names_among, IsExpression}
use Rattle.svc_expr.specs.Names.{Differ}
use Rattle.svc_expr.proofs.NameLemmas.{Names, with_more, top, name_count_is, whole_mentions, place_append, place_new, same_bytes}

-- all names, where a name is known and where it is new
known_name : (so_far more : Names) (name : List ℕ) → name_index so_far name < length so_far → with_names so_far (name ∷ more) ≡ with_names so_far more
known_name so_far more name h = ap (λ b. with_names (if b then so_far else so_far ++ name ∷ []) more) (lt-ltb (name_index so_far name) (length so_far) h)

new_name : (so_far more : Names) (name : List ℕ) → length so_far ≤ name_index so_far name → with_names so_far (name ∷ more) ≡ with_names (so_far ++ name ∷ []) more
new_name so_far more name h = ap (λ b. with_names (if b then so_far else so_far ++ name ∷ []) more) (le-ltb (name_index so_far name) (length so_far) h)

-- a name keeps its place as names come behind it
same_place : (so_far more : Names) (name : List ℕ) → name_index so_far name < length so_far → name_index (with_names so_far more) name ≡ name_index so_far name
same_place so_far more name h = let r = with_more so_far more in ap (λ (l : Names). name_index l name) r.1 ∙ place_append so_far r.0 name h

-- the places of the names of a list reach up to the last
abbrev Reached : Names → Names → Names → Type 0
Reached so_far more all = max (length so_far) (top (map (name_index all) more)) ≡ length all

reached : (so_far more : Names) → Reached so_far more (with_names so_far more)
reached so_far [] = omega arith
reached so_far (name ∷ more) =
    elim (cases_lt (name_index so_far name) (length so_far)) [
      | inl l ↦ subst (Reached so_far (name ∷ more)) (sym (known_name so_far more name l)) (known l (reached so_far more))
      | inr g ↦ subst (Reached so_far (name ∷ more)) (sym (new_name so_far more name g)) (new g (reached (so_far ++ name ∷ []) more))
    ]
  where
    known : name_index so_far name < length so_far → Reached so_far more (with_names so_far more) → Reached so_far (name ∷ more) (with_names so_far more)
    known l h = omega (arith, same_place so_far more name l)

    new : length so_far ≤ name_index so_far name → Reached (so_far ++ name ∷ []) more (with_names (so_far ++ name ∷ []) more) → Reached so_far (name ∷ more) (with_names (so_far ++ name ∷ []) more)
    new g h =
        let longer : length (so_far ++ name ∷ []) ≡ length so_far + 1 = length-append so_far (name ∷ []) in
        let last : name_index (so_far ++ name ∷ []) name ≡ length so_far = place_new so_far name g in
        let same = same_place (so_far ++ name ∷ []) more name (omega arith) in
        omega arith

-- an expression has as many names as its tree asks for
pub names_counted : (ts : List Token) (e : Tree) (names : Names) → IsExpression ts e names → length names ≡ name_count e
names_counted ts e names s =
    let all = reached [] (names_among ts) in
    let mentioned : top (mentions e) ≡ top (map (name_index names) (names_among ts)) = ap top (whole_mentions names s.1) in
    let same : Reached [] (names_among ts) names = subst (Reached [] (names_among ts)) (sym s.0) all in
    omega (arith, name_count_is e)

-- a name that is there is found before the end
found_before_end : (names : Names) (name : List ℕ) → Has names name → name_index names name < length names
found_before_end [] name has = absurd has
found_before_end (first ∷ names) name (inl same) =
    let passes : bytes_eq first name ≡ true = ap (λ other. bytes_eq other name) same ∙ same_bytes name in
    rw passes (omega arith)
found_before_end (first ∷ names) name (inr later) =
    let h = found_before_end names name later in
    elim (bytes_eq first name) as (λ b. cond (not b) (1 + name_index names name) 0 < length (first ∷ names)) [ true ↦ omega arith | false ↦ omega arith ]

-- one name more, which is not there yet
differ_more : (names : Names) (name : List ℕ) → Differ names → (Has names name → ⊥) → Differ (names ++ name ∷ [])
differ_more [] name h new = ((λ has. has), tt)
differ_more (first ∷ names) name h new = (apart, differ_more names name h.1 (λ has. new (inr has)))
  where
    apart : Has (names ++ name ∷ []) first → ⊥
    apart has = elim (Has-append_cases names (name ∷ []) first has) [ inl there ↦ h.0 there | inr last ↦ elim last [ inl same ↦ new (inl (sym same)) | inr none ↦ none ] ]

differ_all : (so_far more : Names) → Differ so_far → Differ (with_names so_far more)
differ_all so_far [] h = h
differ_all so_far (name ∷ more) h =
    elim (cases_lt (name_index so_far name) (length so_far)) [
      | inl l ↦ subst Differ (sym (known_name so_far more name l)) (differ_all so_far more h)
      | inr g ↦ subst Differ (sym (new_name so_far more name g)) (differ_all (so_far ++ name ∷ []) more (differ_more so_far name h (λ has. let before = found_before_end so_far name has in absurd (omega arith))))
    ]

-- no name of an expression stands twice
pub names_differ : (ts : List Token) (e : Tree) (names : Names) → IsExpression ts e names → Differ names
names_differ ts e names s = subst Differ (sym s.0) (differ_all [] (names_among ts) tt)

-- a name that is among all is one so far, or one of the list
from_either : (so_far more : Names) (name : List ℕ) → Has (with_names so_far more) name → Has so_far name ⊎ Has more name
from_either so_far [] name has = inl has
from_either so_far (first ∷ more) name has =
    elim (cases_lt (name_index so_far first) (length so_far)) [
      | inl l ↦ elim (from_either so_far more name (subst (λ l. Has l name) (known_name so_far more first l) has)) [ inl there ↦ inl there | inr later ↦ inr (inr later) ]
      | inr g ↦ elim (from_either (so_far ++ first ∷ []) more name (subst (λ l. Has l name) (new_name so_far more first g) has)) [ inl there ↦ last there | inr later ↦ inr (inr later) ]
    ]
  where
    last : Has (so_far ++ first ∷ []) name → Has so_far name ⊎ Has (first ∷ more) name
    last there = elim (Has-append_cases so_far (first ∷ []) name there) [ inl before ↦ inl before | inr here ↦ elim here [ inl same ↦ inr (inl same) | inr none ↦ absurd none ] ]

-- the names in tokens are names
named_among : (ts : List Token) (name : List ℕ) → AreNamed ts → Has (names_among ts) name → IsName name
named_among [] name h has = absurd has
named_among (Name first ∷ ts) name h (inl same) = subst IsName same h.0
named_among (Name first ∷ ts) name h (inr later) = named_among ts name h.1 later
named_among (t ∷ ts) name h has = named_among ts name h.1 has

-- each name of an expression is one of its tokens, and so a name
pub name_is_named : (ts : List Token) (e : Tree) (names : Names) → IsExpression ts e names → AreNamed ts → (name : List ℕ) → Has names name → IsName name
name_is_named ts e names s h name has =
    elim (from_either [] (names_among ts) name (subst (λ l. Has l name) s.0 has)) [ inl none ↦ absurd none | inr among ↦ named_among ts name h among ]
