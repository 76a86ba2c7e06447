-- The parts of the bytes of a state.
use Rattle.std.proofs.Common.{◌≡◌, ℕ, List, ◌∷◌, ◌++◌, length, flat_map, ap, ◌∙◌, append_assoc}
use Rattle.svc_expr.specs.Canonical.{canonical_text}
use Rattle.svc_expr.specs.Tree.{tree_of}
use Rattle.saved_state.specs.declared.named.NamedFormula.{NamedFormula}
use Rattle.saved_state.specs.declared.named.NamedRow.{NamedRow}
use Rattle.saved_state.specs.Bytes.{u16_bytes, u32_bytes, type_code}
use Rattle.saved_state.specs.Named.{named_bytes, named_definition_bytes, named_formula_bytes}

-- what stands behind the text of a formula
abbrev pub behind_text : NamedFormula → List ℕ → List ℕ
behind_text formula more = length formula.members ∷ flat_map u16_bytes formula.members ++ more

pub formula_parts : (formula : NamedFormula) (more : List ℕ) →
    named_formula_bytes formula ++ more
    ≡ u32_bytes (length (canonical_text formula.names (tree_of formula.expr))) ++ (canonical_text formula.names (tree_of formula.expr) ++ behind_text formula more)
formula_parts formula more =
    let text = canonical_text formula.names (tree_of formula.expr) in
    let tail = length formula.members ∷ flat_map u16_bytes formula.members in
    append_assoc (u32_bytes (length text)) (text ++ tail) more ∙ ap (λ l. u32_bytes (length text) ++ l) (append_assoc text tail more)

-- what stands behind the name of a service
abbrev pub behind_name : NamedRow → List ℕ → List ℕ
behind_name row more = type_code row.ty ∷ (u16_bytes row.rank ++ (named_definition_bytes row.definition ++ more))

pub row_parts : (row : NamedRow) (more : List ℕ) → named_bytes row ++ more ≡ length row.name ∷ (row.name ++ behind_name row more)
row_parts row more =
    let head = type_code row.ty ∷ u16_bytes row.rank in
    let last = named_definition_bytes row.definition in
    ap (λ l. length row.name ∷ l) (append_assoc (row.name ++ head) last more ∙ append_assoc row.name head (last ++ more))
