-- Bytes are those of one state at most.
use Rattle.std.proofs.Common.{◌≡◌, ℕ, ◌<◌, ◌^◌, List, [], ◌∷◌, ◌++◌, length, flat_map, take, drop, get_or, All, refl, sym, ap, ◌∙◌, append_assoc, arith}
use Rattle.std.specs.Int.{w16, w32, from_be_bytes}
use Rattle.std.proofs.Math.Seq.{take-append_seam, drop-append_seam}
use Rattle.std.proofs.lemmas.Nat.{from_be_bytes-to_be_bytes_2, from_be_bytes-to_be_bytes_4}
use Rattle.svc_expr.specs.Canonical.{canonical_text}
use Rattle.svc_expr.specs.Tree.{tree_of}
use Rattle.svc_value.proofs.ValuePlaces.{one_value}
use Rattle.svc_value.specs.declared.value.ValueType.{ValueType}
use Rattle.svc_value.specs.declared.value.ValueType.TheVariants.{Int, Text}
use Rattle.saved_state.specs.declared.named.NamedDefinition.{NamedDefinition}
use Rattle.saved_state.specs.declared.named.NamedDefinition.TheVariants.{Input, Derived}
use Rattle.saved_state.specs.declared.named.NamedFormula.{NamedFormula}
use Rattle.saved_state.specs.declared.named.NamedRow.{NamedRow}
use Rattle.saved_state.specs.declared.saved.Saved.{Saved}
use Rattle.saved_state.specs.Bytes.{service_bytes, state_bytes, type_code, u16_bytes, u32_bytes, IsStateOf}
use Rattle.saved_state.specs.Named.{named_bytes, named_definition_bytes, named_formula_bytes, named_rows, numbered_rows, FitsFormula, FitsNamed, IsNamedDefinition, IsNamedFormula, IsReadRow}
use Rattle.saved_state.specs.States.{names_in}
use Rattle.saved_state.proofs.ExpressionLemmas.{reads_again, reading_is, tokens_are}
use Rattle.saved_state.proofs.ListLemmas.{all_head, all_tail}
use Rattle.saved_state.proofs.NamingLemmas.{numbered_back}
use Rattle.saved_state.proofs.ReadingLemmas.{behind_name, behind_text, formula_parts, row_parts}
use Rattle.saved_state.proofs.StateLemmas.{all_bytes, read_rows, rows_many}

-- ---- numbers and lists

fronts : (xs ys s t : List ℕ) → length xs ≡ length ys → xs ++ s ≡ ys ++ t → (xs ≡ ys) × (s ≡ t)
fronts xs ys s t l e = (
  sym (take-append_seam xs s) ∙ (λ i. take (l i) (e i)) ∙ take-append_seam ys t,
  sym (drop-append_seam xs s) ∙ (λ i. drop (l i) (e i)) ∙ drop-append_seam ys t,
)

one_word : (x y : ℕ) (s t : List ℕ) → x < 2 ^ 32 → y < 2 ^ 32 → u32_bytes x ++ s ≡ u32_bytes y ++ t → (x ≡ y) × (s ≡ t)
one_word x y s t small_x small_y e = (
  sym (from_be_bytes-to_be_bytes_4 x small_x) ∙ ap (λ bs. from_be_bytes w32 (take 4 bs)) e ∙ from_be_bytes-to_be_bytes_4 y small_y,
  ap (drop 4) e,
)

one_half : (x y : ℕ) (s t : List ℕ) → x < 2 ^ 16 → y < 2 ^ 16 → u16_bytes x ++ s ≡ u16_bytes y ++ t → (x ≡ y) × (s ≡ t)
one_half x y s t small_x small_y e = (
  sym (from_be_bytes-to_be_bytes_2 x small_x) ∙ ap (λ bs. from_be_bytes w16 (take 2 bs)) e ∙ from_be_bytes-to_be_bytes_2 y small_y,
  ap (drop 2) e,
)

one_head : (x y : ℕ) (s t : List ℕ) → x ∷ s ≡ y ∷ t → (x ≡ y) × (s ≡ t)
one_head x y s t e = (ap (λ l. get_or l 0 0) e, ap (drop 1) e)

members_one : (ps qs s t : List ℕ) → length ps ≡ length qs → All (λ p. p < 2 ^ 16) ps → All (λ q. q < 2 ^ 16) qs → flat_map u16_bytes ps ++ s ≡ flat_map u16_bytes qs ++ t → (ps ≡ qs) × (s ≡ t)
members_one [] [] s t l h k e = (refl, e)
members_one [] (q ∷ qs) s t l h k e = absurd (omega (arith, l))
members_one (p ∷ ps) [] s t l h k e = absurd (omega (arith, l))
members_one (p ∷ ps) (q ∷ qs) s t l h k e =
    let first = one_half p q (flat_map u16_bytes ps ++ s) (flat_map u16_bytes qs ++ t) (all_head (λ r. r < 2 ^ 16) p ps h) (all_head (λ r. r < 2 ^ 16) q qs k)
    (sym (append_assoc (u16_bytes p) (flat_map u16_bytes ps) s) ∙ e ∙ append_assoc (u16_bytes q) (flat_map u16_bytes qs) t) in
    let rest = members_one ps qs s t (omega (arith, l)) (all_tail (λ r. r < 2 ^ 16) p ps h) (all_tail (λ r. r < 2 ^ 16) q qs k) first.1 in
    ((λ i. first.0 i ∷ rest.0 i), rest.1)

-- ---- formulas and definitions

formula_one : (f g : NamedFormula) (s t : List ℕ) → IsNamedFormula f → IsNamedFormula g → FitsFormula f → FitsFormula g → named_formula_bytes f ++ s ≡ named_formula_bytes g ++ t → (f ≡ g) × (s ≡ t)
formula_one f g s t hf hg ff fg e =
    let text_f = canonical_text f.names (tree_of f.expr) in
    let text_g = canonical_text g.names (tree_of g.expr) in
    let len = one_word (length text_f) (length text_g) (text_f ++ behind_text f s) (text_g ++ behind_text g t) ff.text fg.text (sym (formula_parts f s) ∙ e ∙ formula_parts g t) in
    let text = fronts text_f text_g (behind_text f s) (behind_text g t) len.0 len.1 in
    let count = one_head (length f.members) (length g.members) (flat_map u16_bytes f.members ++ s) (flat_map u16_bytes g.members ++ t) text.1 in
    let members = members_one f.members g.members s t count.0 ff.members fg.members count.1 in
    let read = reads_again (record { expr = f.expr; names = f.names }) text_f hf ff.tree refl in
    let same = reading_is (record { expr = f.expr; names = f.names }) (record { expr = g.expr; names = g.names }) read.0 read.2
    (tokens_are (record { expr = g.expr; names = g.names }) text_f read.0 hg fg.tree text.0 read.1) in
    ((λ i. record { expr = (same i).expr; names = (same i).names; members = members.0 i }), members.1)

definition_one : (rank : ℕ) (d e : NamedDefinition) (s t : List ℕ) → IsNamedDefinition rank d → IsNamedDefinition rank e → FitsNamed d → FitsNamed e →
    named_definition_bytes d ++ s ≡ named_definition_bytes e ++ t → (d ≡ e) × (s ≡ t)
definition_one rank (Input v) (Input w) s t hd he fd fe same = let both = one_value v w s t fd fe same in (ap Input both.0, both.1)
definition_one rank (Input v) (Derived g) s t hd he fd fe same = absurd (omega (arith, hd.0, he.0))
definition_one rank (Derived f) (Input w) s t hd he fd fe same = absurd (omega (arith, hd.0, he.0))
definition_one rank (Derived f) (Derived g) s t hd he fd fe same = let both = formula_one f g s t hd.1 he.1 fd fe same in (ap Derived both.0, both.1)

type_one : (x y : ValueType) → type_code x ≡ type_code y → x ≡ y
type_one Int Int e = refl
type_one Int Text e = absurd (omega (arith, e))
type_one Text Int e = absurd (omega (arith, e))
type_one Text Text e = refl

-- ---- services

row_one : (p q : NamedRow) (s t : List ℕ) → IsReadRow p → IsReadRow q → named_bytes p ++ s ≡ named_bytes q ++ t → (p ≡ q) × (s ≡ t)
row_one p q s t hp hq e =
    let rest_p = named_definition_bytes p.definition ++ s in
    let rest_q = named_definition_bytes q.definition ++ t in
    let few_p = hp.0.rank in
    let few_q = hq.0.rank in
    let len = one_head (length p.name) (length q.name) (p.name ++ behind_name p s) (q.name ++ behind_name q t) (sym (row_parts p s) ∙ e ∙ row_parts q t) in
    let name = fronts p.name q.name (behind_name p s) (behind_name q t) len.0 len.1 in
    let code = one_head (type_code p.ty) (type_code q.ty) (u16_bytes p.rank ++ rest_p) (u16_bytes q.rank ++ rest_q) name.1 in
    let ty = type_one p.ty q.ty code.0 in
    let rank = one_half p.rank q.rank rest_p rest_q (omega (arith, few_p)) (omega (arith, few_q)) code.1 in
    let definition = definition_one p.rank p.definition q.definition s t hp.0.definition (rw (rank.0) hq.0.definition) hp.1 hq.1 rank.1 in
    ((λ i. record { name = name.0 i; rank = rank.0 i; ty = ty i; definition = definition.0 i }), definition.1)

rows_one : (ps qs : List NamedRow) → length ps ≡ length qs → All IsReadRow ps → All IsReadRow qs → flat_map named_bytes ps ≡ flat_map named_bytes qs → ps ≡ qs
rows_one [] [] l h k e = refl
rows_one [] (q ∷ qs) l h k e = absurd (omega (arith, l))
rows_one (p ∷ ps) [] l h k e = absurd (omega (arith, l))
rows_one (p ∷ ps) (q ∷ qs) l h k e =
    let first = row_one p q (flat_map named_bytes ps) (flat_map named_bytes qs) (all_head IsReadRow p ps h) (all_head IsReadRow q qs k) e in
    let rest = rows_one ps qs (omega (arith, l)) (all_tail IsReadRow p ps h) (all_tail IsReadRow q qs k) first.1 in
    λ i. first.0 i ∷ rest i

-- ---- states

pub one_state : (a b : Saved) (bytes : List ℕ) → IsStateOf a bytes → IsStateOf b bytes → a ≡ b
one_state a b bytes p q =
    let list_a = flat_map (service_bytes (names_in a.services)) a.services in
    let list_b = flat_map (service_bytes (names_in b.services)) b.services in
    let most_a = p.state.ended in
    let most_b = q.state.ended in
    let e : state_bytes a ≡ state_bytes b = sym p.is ∙ q.is in
    let leg = one_word a.leg b.leg (length a.services ∷ list_a) (length b.services ∷ list_b) (omega (arith, most_a)) (omega (arith, most_b)) (ap (drop 4) e) in
    let count = one_head (length a.services) (length b.services) list_a list_b leg.1 in
    let rows = rows_one (named_rows a.services) (named_rows b.services) (rows_many a bytes p ∙ count.0 ∙ sym (rows_many b bytes q)) (read_rows a bytes p) (read_rows b bytes q)
    (sym (all_bytes (names_in a.services) a.services) ∙ count.1 ∙ all_bytes (names_in b.services) b.services) in
    let services : a.services ≡ b.services = sym (numbered_back a.services p.state.book) ∙ ap numbered_rows rows ∙ numbered_back b.services q.state.book in
    λ i. record { leg = leg.0 i; services = services i }
