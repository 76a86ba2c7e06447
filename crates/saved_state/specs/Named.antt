-- The services of a state as its bytes have them: each expression with its names.
use Rattle.std.specs.Prelude.{◌≡◌, ℕ, ◌<◌, ◌≤◌, ◌^◌, List, ◌∷◌, ◌++◌, length, map, flat_map, All}
use Rattle.svc_expr.specs.Canonical.{canonical_text, IsInOrder, IsWithin as IsTreeWithin}
use Rattle.svc_expr.specs.Grammar.{name_index}
use Rattle.svc_expr.specs.Names.{Differ}
use Rattle.svc_expr.specs.declared.expr.Reading.{Reading}
use Rattle.svc_expr.specs.Tree.{tree_of, IsSmall}
use Rattle.svc_expr.specs.Types.{name_count}
use Rattle.svc_graph.specs.Accepting.{IsProper, HasForm}
use Rattle.svc_graph.specs.declared.definition.Change.TheVariants.{Birth}
use Rattle.svc_graph.specs.declared.definition.Definition.{Definition}
use Rattle.svc_graph.specs.declared.definition.Definition.TheVariants as definition
use Rattle.svc_token.specs.Word.{IsName}
use Rattle.svc_value.specs.Layout.{layout, IsWithin}
use Rattle.svc_value.specs.declared.limits.TheConstants.{MAX_RANK}
use Rattle.saved_state.specs.declared.named.NamedDefinition.{NamedDefinition}
use Rattle.saved_state.specs.declared.named.NamedDefinition.TheVariants.{Input, Derived}
use Rattle.saved_state.specs.declared.named.NamedFormula.{NamedFormula}
use Rattle.saved_state.specs.declared.named.NamedRow.{NamedRow}
use Rattle.saved_state.specs.declared.saved.ServiceRow.{ServiceRow}
use Rattle.saved_state.specs.Bytes.{u16_bytes, u32_bytes, type_code}
use Rattle.saved_state.specs.States.{names_in, names_at}

-- ---- from services to names and back

-- a definition with the names in place of the numbers
abbrev pub named_definition : List (List ℕ) → Definition → NamedDefinition
named_definition names (definition.Input value) = Input value
named_definition names (definition.Derived formula) = Derived (record { expr = formula.expr; names = names_at names formula.fixed; members = formula.members })

-- a service with names
abbrev pub named_row : List (List ℕ) → ServiceRow → NamedRow
named_row names service = record { name = service.name; rank = service.rank; ty = service.ty; definition = named_definition names service.definition }

-- the services with names
abbrev pub named_rows : List ServiceRow → List NamedRow
named_rows services = map (named_row (names_in services)) services

-- the names of the services
abbrev pub names_of : List NamedRow → List (List ℕ)
names_of rows = map (λ row. row.name) rows

-- a definition with the numbers in place of the names
abbrev pub numbered_definition : List (List ℕ) → NamedDefinition → Definition
numbered_definition names (Input value) = definition.Input value
numbered_definition names (Derived formula) = definition.Derived (record { expr = formula.expr; fixed = map (name_index names) formula.names; members = formula.members })

-- a service with numbers
abbrev pub numbered_row : List (List ℕ) → NamedRow → ServiceRow
numbered_row names row = record { name = row.name; rank = row.rank; ty = row.ty; definition = numbered_definition names row.definition }

-- the services with numbers
abbrev pub numbered_rows : List NamedRow → List ServiceRow
numbered_rows rows = map (numbered_row (names_of rows)) rows

-- each name of the definition is that of a service
abbrev pub IsKnown : List (List ℕ) → NamedDefinition → Type 0
IsKnown names (Input value) = Unit {0}
IsKnown names (Derived formula) = All (λ name. name_index names name < length names) formula.names

-- ---- what is read

-- an expression within the limits whose names are names of the document, all different, as many as it counts, in the order of first mention
pub record IsNamedExpression (reading : Reading) : Type 0 where
  pub small : IsSmall (tree_of reading.expr)
  pub count : length reading.names ≡ name_count (tree_of reading.expr)
  pub differ : Differ reading.names
  pub names : All IsName reading.names
  pub order : IsInOrder reading.names (tree_of reading.expr)

-- so for the expression of a formula
abbrev pub IsNamedFormula : NamedFormula → Type 0
IsNamedFormula formula = IsNamedExpression (record { expr = formula.expr; names = formula.names })

-- a value that is no fault with rank 0, or an expression with a higher rank
abbrev pub IsNamedDefinition : ℕ → NamedDefinition → Type 0
IsNamedDefinition rank (Input value) = (rank ≡ 0) × IsProper value
IsNamedDefinition rank (Derived formula) = (0 < rank) × IsNamedFormula formula

-- a name, a rank within its limit and a definition
pub record IsNamedRow (row : NamedRow) : Type 0 where
  pub name : IsName row.name
  pub rank : row.rank ≤ MAX_RANK
  pub definition : IsNamedDefinition row.rank row.definition

-- what is known of a service before it is accepted
pub record IsFormed (service : ServiceRow) : Type 0 where
  pub rank : service.rank ≤ MAX_RANK
  pub form : HasForm service.rank (Birth service.definition)

-- ---- bytes

-- the bytes of a formula with names: the text of its expression after its length, and the members after their number
abbrev pub named_formula_bytes : NamedFormula → List ℕ
named_formula_bytes formula =
    u32_bytes (length (canonical_text formula.names (tree_of formula.expr))) ++ canonical_text formula.names (tree_of formula.expr)
    ++ length formula.members ∷ flat_map u16_bytes formula.members

-- the bytes of a definition with names
abbrev pub named_definition_bytes : NamedDefinition → List ℕ
named_definition_bytes (Input value) = layout value
named_definition_bytes (Derived formula) = named_formula_bytes formula

-- the bytes of a service with names
abbrev pub named_bytes : NamedRow → List ℕ
named_bytes row = length row.name ∷ row.name ++ type_code row.ty ∷ u16_bytes row.rank ++ named_definition_bytes row.definition

-- the formula fits its layout
pub record FitsFormula (formula : NamedFormula) : Type 0 where
  pub tree : IsTreeWithin (tree_of formula.expr)
  pub text : length (canonical_text formula.names (tree_of formula.expr)) < 2 ^ 32
  pub few : length formula.members < 2 ^ 8
  pub members : All (λ member. member < 2 ^ 16) formula.members

-- the definition fits its layout
abbrev pub FitsNamed : NamedDefinition → Type 0
FitsNamed (Input value) = IsWithin value
FitsNamed (Derived formula) = FitsFormula formula

-- the row stands as the bytes of a state can have it
abbrev pub IsReadRow : NamedRow → Type 0
IsReadRow row = IsNamedRow row × FitsNamed row.definition
