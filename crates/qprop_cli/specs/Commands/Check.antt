-- The command `check`: the line that an accepted document is answered with.
use Rattle.std.specs.Prelude.{ℕ, ◌+◌, List, [], ◌∷◌, ◌++◌, length, codes, Option}
use Rattle.std.specs.Io.KnownBytes.{Appends}
use Rattle.document_reading.specs.Document.{HasLegs}
use Rattle.svc_plan.specs.declared.plan.Leg.{Leg}
use Rattle.svc_plan.specs.declared.plan.Mode.TheVariants as mode
use Rattle.qprop_cli.specs.Numbers.{number_text}
use Rattle.qprop_cli.specs.Streams.{ReadsWhole}

-- how many services the legs declare
abbrev pub service_count : List Leg → ℕ
service_count [] = 0
service_count (leg ∷ legs) = length leg.services + service_count legs

-- how many changes they make; a birth is one
abbrev pub change_count : List Leg → ℕ
change_count [] = 0
change_count (leg ∷ legs) = length leg.changes + change_count legs

-- the three counts of a document with these legs
abbrev pub counts_text : List Leg → List ℕ
counts_text legs = codes "services=" ++ number_text (service_count legs) ++ codes " changes=" ++ number_text (change_count legs) ++ codes " settles=" ++ number_text (length legs)

-- the line with these counts
abbrev pub accepted_line : List Leg → List ℕ
accepted_line legs = codes "accepted " ++ counts_text legs ++ codes "\n"

-- the source was read to its end, what it gave is a document with these legs, and its counts were added
pub record CheckOutput (left_old left_new held_old held_new : Option (List ℕ)) : Type 0 where
  pub read : List ℕ
  pub whole : ReadsWhole left_old left_new read
  pub legs : List Leg
  pub accepted : HasLegs mode.Plain read legs
  pub gained : Appends held_old held_new (accepted_line legs)
