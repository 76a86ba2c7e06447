-- The settled text of a document: after each leg a block of lines with the value of every service.
use Rattle.std.specs.Prelude.{ℕ, suc, pos, List, [], ◌∷◌, ◌++◌, codes}
use Rattle.svc_graph.specs.Central.{AreCentral}
use Rattle.svc_graph.specs.History.{Row}
use Rattle.svc_plan.specs.declared.plan.Leg.{Leg}
use Rattle.svc_plan.specs.Rows.{rows_after}
use Rattle.svc_value.specs.Printed.{printed_value}
use Rattle.svc_value.specs.declared.value.Value.{Value}
use Rattle.svc_value.specs.declared.value.Value.TheVariants.{Int}

-- the name of a service, a blank and its value
abbrev pub value_line : Row → Value → List ℕ
value_line row value = row.name ++ codes " " ++ printed_value value ++ codes "\n"

-- such a line for each service, in order
abbrev pub value_lines : List Row → List Value → List ℕ
value_lines [] values = []
value_lines (row ∷ rows) [] = []
value_lines (row ∷ rows) (value ∷ values) = value_line row value ++ value_lines rows values

-- `settle` and the number of the leg
abbrev pub settle_line : ℕ → List ℕ
settle_line k = codes "settle " ++ printed_value (Int (pos k)) ++ codes "\n"

-- the block of the k-th leg: its settle line, and then the value lines
abbrev pub settled_block : ℕ → List Row → List Value → List ℕ
settled_block k rows values = settle_line k ++ value_lines rows values

-- the text of these legs, where k legs came before and left these rows: a block for each, with the central values after it
pub data Settles : ℕ → List Row → List Leg → List ℕ → Type 0 where
  none : {k : ℕ} {rows : List Row} → Settles k rows [] []
  leg : {k : ℕ} {rows : List Row} {next : Leg} {legs : List Leg} {values : List Value} {text : List ℕ}
      → AreCentral (rows_after rows next) values → Settles (suc k) (rows_after rows next) legs text
      → Settles k rows (next ∷ legs) (settled_block (suc k) (rows_after rows next) values ++ text)
