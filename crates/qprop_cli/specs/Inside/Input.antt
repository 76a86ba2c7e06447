-- What a source gives to a command that reads a document.
use Rattle.std.specs.Prelude.{ℕ, List, Option}
use Rattle.document_reading.specs.Document.{HasLegs}
use Rattle.svc_plan.specs.declared.plan.Leg.{Leg}
use Rattle.svc_plan.specs.declared.plan.Mode.{Mode}
use Rattle.qprop_cli.specs.Streams.{ReadsWhole}

-- the source was read to its end, and what it gave is a document in this mode with these legs
pub record GivesLegs (mode : Mode) (left_old left_new : Option (List ℕ)) (legs : List Leg) : Type 0 where
  pub read : List ℕ
  pub whole : ReadsWhole left_old left_new read
  pub accepted : HasLegs mode read legs
