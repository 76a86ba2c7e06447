-- The command `load`: the line that sums up the run of a document that is made.
use Rattle.std.specs.Prelude.{ℕ, suc, List, [], ◌∷◌, ◌++◌, codes, Option, IfSome}
use Rattle.std.specs.Fmt.{signed_decimal}
use Rattle.std.specs.Io.KnownBytes.{Appends}
use Rattle.command_words.specs.declared.size.Size.{Size}
use Rattle.document_generator.specs.Generator.{generated}
use Rattle.document_reading.specs.Document.{HasLegs}
use Rattle.settle_core.specs.Net.{NetworkView}
use Rattle.svc_expr.specs.Meaning.{numbers_in, total}
use Rattle.svc_graph.specs.Central.{AreCentral}
use Rattle.svc_plan.specs.declared.plan.Leg.{Leg}
use Rattle.svc_plan.specs.declared.plan.Mode.TheVariants as mode
use Rattle.svc_plan.specs.Rows.{rows_after_all}
use Rattle.svc_value.specs.declared.value.Value.{Value}
use Rattle.svc_value.specs.declared.value.Value.TheVariants.{Bad}
use Rattle.qprop_cli.specs.Commands.Check.{counts_text}
use Rattle.qprop_cli.specs.Commands.Step.{HasDone}
use Rattle.qprop_cli.specs.Numbers.{number_text}

-- how many of the values are faults
abbrev pub fault_count : List Value → ℕ
fault_count [] = 0
fault_count (Bad fault ∷ values) = suc (fault_count values)
fault_count (value ∷ values) = fault_count values

-- the counts of a document with these legs, the number of faults among these values, and the exact sum of the whole numbers
abbrev pub load_line : List Leg → List Value → List ℕ
load_line legs values =
    codes "load " ++ counts_text legs ++ codes " faults=" ++ number_text (fault_count values) ++ codes " sum=" ++ signed_decimal (total (numbers_in values)) ++ codes "\n"

-- the document that is made for this size has these legs, the values are the central evaluation after them, and the line is added; the
-- network has done these legs
pub record LoadedOutput (size : Size) (held_old held_new : Option (List ℕ)) (network : Option NetworkView) : Type 0 where
  pub legs : List Leg
  pub accepted : HasLegs mode.Plain (generated size.services size.changes size.start) legs
  pub values : List Value
  pub central : AreCentral (rows_after_all [] legs) values
  pub gained : Appends held_old held_new (load_line legs values)
  pub network_done : IfSome network (λ n. HasDone legs n)
