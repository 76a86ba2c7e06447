-- The text of legs that are run one after another, block by block.
use Rattle.std.specs.Prelude.{◌≡◌, ℕ, List, ◌++◌, length, Option}
use Rattle.std.specs.Io.KnownBytes.{Appends}
use Rattle.command_words.specs.declared.trace_flags.TraceFlags.{TraceFlags}
use Rattle.settle_core.specs.Net.{NetworkView}
use Rattle.svc_graph.specs.Central.{AreCentral}
use Rattle.svc_graph.specs.History.{Row}
use Rattle.svc_plan.specs.declared.plan.Leg.{Leg}
use Rattle.svc_plan.specs.Rows.{rows_after}
use Rattle.svc_value.specs.declared.value.Value.{Value}
use Rattle.trace_text.specs.Blocks.{Trace, IsTraceOf, trace_lines}
use Rattle.trace_text.specs.Named.{naming}
use Rattle.trace_text.specs.Settled.{settled_block}
use Rattle.qprop_cli.specs.Commands.Step.{IsTraced, IsTracedText, HasTraced, wanted}
use Rattle.qprop_cli.specs.Streams.{AddsBeginning}

-- ---- the text of one leg

-- the block of the k-th leg, which leaves these rows
pub record IsBlock (k : ℕ) (rows : List Row) (block : List ℕ) : Type 0 where
  pub values : List Value
  pub central : AreCentral rows values
  pub text : block ≡ settled_block k rows values

-- the block of the k-th leg, which began after these rows, with the trace lines that are asked for; this network ran it
pub record IsTracedBlock (flags : TraceFlags) (k : ℕ) (before : List Row) (leg : Leg) (network : NetworkView) (block : List ℕ) : Type 0 where
  pub values : List Value
  pub central : AreCentral (rows_after before leg) values
  pub trace : Trace
  pub traced : IsTraced before leg network trace
  pub within : IsTraceOf (length (rows_after before leg)) trace
  pub text : block ≡ trace_lines (wanted flags) (naming (rows_after before leg)) trace ++ settled_block k (rows_after before leg) values

-- such a block was added
pub record AddsBlock (Is : List ℕ → Type 0) (held_old held_new : Option (List ℕ)) : Type 0 where
  pub block : List ℕ
  pub is_block : Is block
  pub added : Appends held_old held_new block

-- a beginning of such a block was added
pub record BeginsBlock (Is : List ℕ → Type 0) (held_old held_new : Option (List ℕ)) : Type 0 where
  pub block : List ℕ
  pub is_block : Is block
  pub begun : AddsBeginning held_old held_new block

-- ---- the text of all legs

-- such a text of these legs was added
pub record AddsText (Is : List Leg → List ℕ → Type 0) (held_old held_new : Option (List ℕ)) (legs : List Leg) : Type 0 where
  pub text : List ℕ
  pub is_text : Is legs text
  pub added : Appends held_old held_new text

-- a beginning of such a text of the first of these legs was added
pub record BeginsText (Is : List Leg → List ℕ → Type 0) (held_old held_new : Option (List ℕ)) (legs : List Leg) : Type 0 where
  pub run : List Leg
  pub left : List Leg
  pub all : run ++ left ≡ legs
  pub text : List ℕ
  pub is_text : Is run text
  pub begun : AddsBeginning held_old held_new text

-- the text of these legs with the trace lines that are asked for was added, and the network has done them
pub record AddsTraced (flags : TraceFlags) (held_old held_new : Option (List ℕ)) (legs : List Leg) (network : NetworkView) : Type 0 where
  pub adds : AddsText (IsTracedText flags) held_old held_new legs
  pub done : HasTraced legs adds.is_text.traces network
