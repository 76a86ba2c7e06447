-- Saved states, and the state of a book.
use Rattle.std.specs.Prelude.{ℕ, ◌≤◌, List, [], ◌∷◌, map, flat_map, option_to_list, Option, Some, None, All}
use Rattle.svc_expr.specs.Canonical.{name_at, IsInOrder}
use Rattle.svc_expr.specs.Tree.{tree_of}
use Rattle.svc_graph.specs.Book.{IsBook}
use Rattle.svc_graph.specs.declared.definition.Definition.{Definition}
use Rattle.svc_graph.specs.declared.definition.Definition.TheVariants.{Input, Derived}
use Rattle.svc_graph.specs.History.{Row, present, names_in as row_names}
use Rattle.svc_token.specs.Word.{IsName}
use Rattle.svc_value.specs.declared.limits.TheConstants.{MAX_LEGS}
use Rattle.saved_state.specs.declared.saved.Saved.{Saved}
use Rattle.saved_state.specs.declared.saved.ServiceRow.{ServiceRow}

-- ---- services

-- the names of the services
abbrev pub names_in : List ServiceRow → List (List ℕ)
names_in services = map (λ service. service.name) services

-- the names of the services with these numbers
abbrev pub names_at : List (List ℕ) → List ℕ → List (List ℕ)
names_at names ids = map (name_at names) ids

-- the row of a book whose service has this definition alone
abbrev pub row_of : ServiceRow → Row
row_of service = record { name = service.name; rank = service.rank; ty = service.ty; history = service.definition ∷ [] }

-- the book of these services
abbrev pub rows_of : List ServiceRow → List Row
rows_of services = map row_of services

-- ---- states

-- the names of an expression stand in the order of first mention
abbrev pub IsOrdered : List (List ℕ) → Definition → Type 0
IsOrdered names (Input value) = Unit {0}
IsOrdered names (Derived formula) = IsInOrder (names_at names formula.fixed) (tree_of formula.expr)

-- A leg from 1 to 1000, and services that are those of a book: at most 64 with different names, each with a rank, a type and a definition as a book accepts them. The names are names of the document, and those of each expression stand in the order of first mention.
pub record IsState (saved : Saved) : Type 0 where
  pub begun : 1 ≤ saved.leg
  pub ended : saved.leg ≤ MAX_LEGS
  pub book : IsBook (rows_of saved.services)
  pub names : All IsName (names_in saved.services)
  pub ordered : All (λ service. IsOrdered (names_in saved.services) service.definition) saved.services

-- ---- the state of a book

-- the service of a row with its last definition; none where there is no definition
abbrev pub service_of : Row → Option Definition → List ServiceRow
service_of row None = []
service_of row (Some last) = record { name = row.name; rank = row.rank; ty = row.ty; definition = last } ∷ []

-- the services of a book, each with its last definition
abbrev pub services_of : List Row → List ServiceRow
services_of rows = flat_map (λ row. service_of row (present row.history)) rows

-- the state of a book after so many legs
abbrev pub saved_of_rows : ℕ → List Row → Saved
saved_of_rows leg rows = record { leg = leg; services = services_of rows }

-- what a book does not say of itself and a document that was read does: the names are names of the document, and those of each last expression stand in the order of first mention
pub record IsSayable (rows : List Row) : Type 0 where
  pub names : All IsName (row_names rows)
  pub ordered : All (λ row. All (IsOrdered (row_names rows)) (option_to_list (present row.history))) rows
