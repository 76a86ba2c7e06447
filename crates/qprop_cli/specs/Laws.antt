-- What is true of the settled texts of `run` and `step`.
use Rattle.std.specs.Prelude.{◌≡◌, ℕ, List, [], Option}
use Rattle.command_words.specs.declared.trace_flags.TraceFlags.{TraceFlags}
use Rattle.document_reading.specs.Document.{HasLegs}
use Rattle.settle_core.specs.Net.{NetworkView}
use Rattle.svc_plan.specs.declared.plan.Leg.{Leg}
use Rattle.svc_plan.specs.declared.plan.Mode.{Mode}
use Rattle.svc_plan.specs.declared.plan.Mode.TheVariants as mode
use Rattle.trace_text.specs.Settled.{Settles}
use Rattle.trace_text.specs.Untraced.{untraced}
use Rattle.qprop_cli.specs.Commands.Step.{SettledOutput}

-- a document that is accepted without step lines is accepted with them too, and has the same legs
abbrev pub PlainDocumentsStep : Type 0
PlainDocumentsStep = (bytes : List ℕ) (legs : List Leg) → HasLegs mode.Plain bytes legs → HasLegs mode.Step bytes legs

-- a document that is accepted in both modes has the same legs in both
abbrev pub LegsAreOne : Type 0
LegsAreOne = (one other : Mode) (bytes : List ℕ) (a b : List Leg) → HasLegs one bytes a → HasLegs other bytes b → a ≡ b

-- legs have one settled text
abbrev pub SettledTextsAreOne : Type 0
SettledTextsAreOne = (legs : List Leg) (a b : List ℕ) → Settles 0 [] legs a → Settles 0 [] legs b → a ≡ b

-- calls that read the same document, in whatever modes and with whatever flags, write the same settled text of it
abbrev pub SettledOutputsAgree : Type 0
SettledOutputsAgree =
    (one other : Mode) (flags others : TraceFlags) (left_old left_new held_old held_new left_old' left_new' held_old' held_new' : Option (List ℕ)) (network network' : Option NetworkView) →
    (a : SettledOutput one flags left_old left_new held_old held_new network) → (b : SettledOutput other others left_old' left_new' held_old' held_new' network') → a.read ≡ b.read →
    untraced a.added ≡ untraced b.added
