-- The text of a document with its trace lines: after each leg a block of trace lines, and then its settled block.
use Rattle.std.specs.Prelude.{ℕ, suc, List, [], ◌∷◌, ◌++◌, length}
use Rattle.svc_graph.specs.Central.{AreCentral}
use Rattle.svc_graph.specs.History.{Row}
use Rattle.svc_plan.specs.declared.plan.Leg.{Leg}
use Rattle.svc_plan.specs.Rows.{rows_after}
use Rattle.svc_value.specs.declared.value.Value.{Value}
use Rattle.trace_text.specs.Blocks.{Flags, Trace, IsTraceOf, trace_lines}
use Rattle.trace_text.specs.Named.{naming}
use Rattle.trace_text.specs.Settled.{settled_block}

-- the text of these legs with these traces, where k legs came before and left these rows: for each leg the trace lines that are
-- wanted, and then the block with the central values after it
pub data Traces (flags : Flags) : ℕ → List Row → List Leg → List Trace → List ℕ → Type 0 where
  none : {k : ℕ} {rows : List Row} → Traces flags k rows [] [] []
  leg : {k : ℕ} {rows : List Row} {next : Leg} {legs : List Leg} {values : List Value} {trace : Trace} {traces : List Trace} {text : List ℕ}
      → AreCentral (rows_after rows next) values → IsTraceOf (length (rows_after rows next)) trace → Traces flags (suc k) (rows_after rows next) legs traces text
      → Traces flags k rows (next ∷ legs) (trace ∷ traces) (trace_lines flags (naming (rows_after rows next)) trace ++ (settled_block (suc k) (rows_after rows next) values ++ text))
