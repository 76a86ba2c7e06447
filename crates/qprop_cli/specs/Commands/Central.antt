-- The command `central`: the settled text by the central evaluation.
use Rattle.std.specs.Prelude.{ℕ, List, [], Option}
use Rattle.std.specs.Io.KnownBytes.{Appends}
use Rattle.document_reading.specs.Document.{HasLegs}
use Rattle.svc_plan.specs.declared.plan.Leg.{Leg}
use Rattle.svc_plan.specs.declared.plan.Mode.TheVariants as mode
use Rattle.trace_text.specs.Settled.{Settles}
use Rattle.qprop_cli.specs.Streams.{ReadsWhole}

-- the source was read to its end, what it gave is a document with these legs, and their settled text was added
pub record CentralOutput (left_old left_new held_old held_new : Option (List ℕ)) : Type 0 where
  pub read : List ℕ
  pub whole : ReadsWhole left_old left_new read
  pub legs : List Leg
  pub accepted : HasLegs mode.Plain read legs
  pub added : List ℕ
  pub gained : Appends held_old held_new added
  pub settles : Settles 0 [] legs added
