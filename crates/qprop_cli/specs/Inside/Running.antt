-- Legs that are run one after another, and nothing is written.
use Rattle.std.specs.Prelude.{◌≡◌, ℕ, true, List, []}
use Rattle.command_words.specs.declared.size.Size.{Size}
use Rattle.document_generator.specs.Generator.{generated}
use Rattle.document_reading.specs.Document.{HasLegs}
use Rattle.settle_core.specs.Net.{NetworkView}
use Rattle.settle_core.specs.Quiet.{is_quiet}
use Rattle.svc_plan.specs.declared.plan.Leg.{Leg}
use Rattle.svc_plan.specs.declared.plan.Mode.TheVariants as mode
use Rattle.svc_plan.specs.Rows.{rows_after_all}
use Rattle.svc_graph.specs.Central.{AreCentral}
use Rattle.svc_value.specs.declared.value.Value.{Value}
use Rattle.qprop_cli.specs.Commands.Load.{load_line}
use Rattle.qprop_cli.specs.Commands.Step.{EndsWith, HasDone}

-- the network has run these legs: its histories are theirs, nothing is left to do, and its logs are those of the last leg
pub record HasRunAll (legs : List Leg) (network : NetworkView) : Type 0 where
  pub histories : network.rows ≡ rows_after_all [] legs
  pub quiet : is_quiet network ≡ true
  pub last : EndsWith legs network

-- the network has done the legs of the document of this size, and the text is the line that sums up its values
pub record SumsUp (size : Size) (network : NetworkView) (text : List ℕ) : Type 0 where
  pub legs : List Leg
  pub accepted : HasLegs mode.Plain (generated size.services size.changes size.start) legs
  pub done : HasDone legs network
  pub values : List Value
  pub central : AreCentral (rows_after_all [] legs) values
  pub line : text ≡ load_line legs values
