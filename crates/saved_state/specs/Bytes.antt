-- The bytes of a state. The highest byte of a number stands first.
use Rattle.std.specs.Prelude.{◌≡◌, ℕ, ◌<◌, ◌^◌, List, ◌∷◌, ◌++◌, length, flat_map, codes, All}
use Rattle.std.specs.Int.{w16, w32, to_be_bytes}
use Rattle.svc_expr.specs.Canonical.{canonical_text, IsWithin as IsTreeWithin}
use Rattle.svc_expr.specs.Tree.{tree_of}
use Rattle.svc_graph.specs.declared.definition.Definition.{Definition}
use Rattle.svc_graph.specs.declared.definition.Definition.TheVariants.{Input, Derived}
use Rattle.svc_graph.specs.declared.definition.Formula.{Formula}
use Rattle.svc_value.specs.Layout.{layout, IsWithin}
use Rattle.svc_value.specs.declared.value.ValueType.{ValueType}
use Rattle.svc_value.specs.declared.value.ValueType.TheVariants.{Int, Text}
use Rattle.saved_state.specs.declared.saved.Saved.{Saved}
use Rattle.saved_state.specs.declared.saved.ServiceRow.{ServiceRow}
use Rattle.saved_state.specs.States.{names_in, names_at, IsState}

-- a number in 2 bytes
abbrev pub u16_bytes : ℕ → List ℕ
u16_bytes n = to_be_bytes w16 n

-- a number in 4 bytes
abbrev pub u32_bytes : ℕ → List ℕ
u32_bytes n = to_be_bytes w32 n

-- the code of a type
abbrev pub type_code : ValueType → ℕ
type_code Int = 1
type_code Text = 2

-- the text of the expression of a formula, with the names of its services
abbrev pub formula_text : List (List ℕ) → Formula → List ℕ
formula_text names formula = canonical_text (names_at names formula.fixed) (tree_of formula.expr)

-- the value of an input by its layout; of a derived service the text of its expression after its length, and the members after their number
abbrev pub definition_bytes : List (List ℕ) → Definition → List ℕ
definition_bytes names (Input value) = layout value
definition_bytes names (Derived formula) =
    u32_bytes (length (formula_text names formula)) ++ formula_text names formula ++ length formula.members ∷ flat_map u16_bytes formula.members

-- a service: its name after its length, its type, its rank and its definition
abbrev pub service_bytes : List (List ℕ) → ServiceRow → List ℕ
service_bytes names service =
    length service.name ∷ service.name ++ type_code service.ty ∷ u16_bytes service.rank ++ definition_bytes names service.definition

-- a state: `QPS1`, the leg, the number of services, and each service
abbrev pub state_bytes : Saved → List ℕ
state_bytes saved =
    codes "QPS1" ++ u32_bytes saved.leg ++ length saved.services ∷ flat_map (service_bytes (names_in saved.services)) saved.services

-- the value has 64 bits or is a text of at most 256 bytes, and so is each of an expression, whose text has fewer than 2^32 bytes
abbrev pub FitsDefinition : List (List ℕ) → Definition → Type 0
FitsDefinition names (Input value) = IsWithin value
FitsDefinition names (Derived formula) = IsTreeWithin (tree_of formula.expr) × (length (formula_text names formula) < 2 ^ 32)

-- each definition fits its type: this holds of every state of the program
abbrev pub Fits : Saved → Type 0
Fits saved = All (λ service. FitsDefinition (names_in saved.services) service.definition) saved.services

-- the bytes are those of this state
pub record IsStateOf (saved : Saved) (bytes : List ℕ) : Type 0 where
  pub state : IsState saved
  pub fits : Fits saved
  pub is : bytes ≡ state_bytes saved
