-- The rows of a book, how a change grows one of them, and the book as the theory of propagation sees it.
use Rattle.std.specs.Prelude.{ℕ, zero, suc, Bool, true, false, List, [], ◌∷◌, ◌++◌, ◌-◌, ◌==◌, not, map, filter, take, drop, length, position, slice_get, slice_index_or, Option, Some, None}
use Rattle.std.specs.Str.{bytes_eq}
use Rattle.propagation.specs.History.{Book}
use Rattle.svc_expr.specs.Meaning.{meaning}
use Rattle.svc_expr.specs.Tree.{tree_of}
use Rattle.svc_graph.specs.declared.definition.Change.{Change}
use Rattle.svc_graph.specs.declared.definition.Change.TheVariants.{Birth, Set, Add, Drop, Define}
use Rattle.svc_graph.specs.declared.definition.Definition.{Definition}
use Rattle.svc_graph.specs.declared.definition.Definition.TheVariants.{Input, Derived}
use Rattle.svc_graph.specs.declared.kind.Kind.{Kind}
use Rattle.svc_value.specs.declared.value.Value.{Value}
use Rattle.svc_value.specs.declared.value.ValueType.{ValueType}
use Rattle.svc_value.specs.declared.value.ValueType.TheVariants.{Int}

-- what a book has of one service: its name, its rank and its type, and its accepted definitions, oldest first
pub record Row : Type 0 where
  pub name : List ℕ
  pub rank : ℕ
  pub ty : ValueType
  pub history : List Definition

-- ---- definitions

-- the services that a definition rests on: those of the names, and then the members
abbrev pub dependencies : Definition → List ℕ
dependencies (Input value) = []
dependencies (Derived formula) = formula.fixed ++ formula.members

-- the definition at a clock; there is none at clock 0
abbrev pub at_clock : List Definition → ℕ → Option Definition
at_clock history zero = None
at_clock history (suc c) = slice_get history c

-- the last of the definitions, if there is one
abbrev pub present : List Definition → Option Definition
present history = slice_get history (length history - 1)

-- the definition after a change of the one before
abbrev pub next_definition : Definition → Change → Definition
next_definition before (Birth first) = first
next_definition before (Set value) = Input value
next_definition (Input value) (Add member) = Input value
next_definition (Derived formula) (Add member) = Derived (record formula { members = formula.members ++ member ∷ [] })
next_definition (Input value) (Drop member) = Input value
next_definition (Derived formula) (Drop member) = Derived (record formula { members = filter (λ p. not (p == member)) formula.members })
next_definition before (Define formula) = Derived formula

-- ---- rows

-- whether the change is a birth
abbrev pub is_birth : Change → Bool
is_birth (Birth first) = true
is_birth change = false

-- the definition that a change brings after the last one; before there is one, only a birth brings any
abbrev pub definitions_brought : Option Definition → Change → List Definition
definitions_brought None (Birth first) = first ∷ []
definitions_brought None change = []
definitions_brought (Some last) change = next_definition last change ∷ []

-- the row with the definition that the change brings
abbrev pub row_after : Row → Change → Row
row_after row change = record row { history = row.history ++ definitions_brought (present row.history) change }

-- the rows after a change of service n
abbrev pub rows_after_change : List Row → ℕ → Change → List Row
rows_after_change [] n change = []
rows_after_change (row ∷ rows) zero change = row_after row change ∷ rows
rows_after_change (row ∷ rows) (suc n) change = row ∷ rows_after_change rows n change

-- the row of a service that is declared and has no definition yet
abbrev pub declared_row : List ℕ → ℕ → ValueType → Row
declared_row name rank ty = record { name = name; rank = rank; ty = ty; history = [] }

-- the row of service n; one without name or definitions if it is not declared
abbrev pub row_at : List Row → ℕ → Row
row_at rows n = slice_index_or rows n (declared_row [] 0 Int)

-- the definitions of service n, none if it is not declared
abbrev pub history_of : List Row → ℕ → List Definition
history_of rows n = (row_at rows n).history

-- the rank and the type of a row
abbrev pub kind_of : Row → Kind
kind_of row = record { rank = row.rank; ty = row.ty }

-- the ranks and the types of the services
abbrev pub roster_of : List Row → List Kind
roster_of rows = map kind_of rows

-- the names of the services
abbrev pub names_in : List Row → List (List ℕ)
names_in rows = map (λ row. row.name) rows

-- the number of the service with this name, if it is declared
abbrev pub find_service : List Row → List ℕ → Option ℕ
find_service rows name = position (bytes_eq name) (names_in rows)

-- ---- the book as the theory sees it

-- the meaning of a definition over its dependencies' values: those of the names, and then those of the members
abbrev pub meaning_of : Definition → List Value → Value
meaning_of (Input value) values = value
meaning_of (Derived formula) values = meaning (tree_of formula.expr) (take (length formula.fixed) values) (drop (length formula.fixed) values)

-- the definitions of the rows, each with its dependencies and its meaning
abbrev pub theory : List Row → Book Value Definition
theory rows = record { dependencies = dependencies; meaning = meaning_of; history = history_of rows }
