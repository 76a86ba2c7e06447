-- What a service of these rows keeps.
use Rattle.std.specs.Prelude.{◌≡◌, ℕ, ◌+◌, ◌<◌, List, [], ◌∷◌, length, Option}
use Rattle.std.proofs.Common.{Some}
use Rattle.svc_graph.specs.declared.definition.Definition.{Definition}
use Rattle.svc_graph.specs.History.{Row, history_of, present}
use Rattle.node_core.specs.View.{NodeView as TheService}

-- the last definition, after those that are still to come
abbrev pub last_of : Option Definition → List Definition → Option Definition
last_of definition [] = definition
last_of definition (d ∷ rest) = last_of (Some d) rest

-- the node goes through the definitions that the book has of the service
pub record Keeps (id : ℕ) (node : TheService) (rows : List Row) : Type 0 where
  pub declared : id < length rows
  pub id_is : node.state.id ≡ id
  pub clock : node.state.own + length node.state.left ≡ length (history_of rows id)
  pub last : last_of node.state.definition node.state.left ≡ present (history_of rows id)

-- it does, where there is a book
abbrev pub IsKept : ℕ → TheService → Option (List Row) → Type 0
IsKept id node book = (rows : List Row) → book ≡ Some rows → Keeps id node rows

-- it still does
abbrev pub GoesOn : TheService → TheService → Type 0
GoesOn old new = (id : ℕ) (rows : List Row) → Keeps id old rows → Keeps id new rows
