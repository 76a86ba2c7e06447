-- The command `frames`: the line of a frame.
use Rattle.std.specs.Prelude.{ℕ, List, [], ◌∷◌, ◌++◌, codes}
use Rattle.svc_value.specs.Printed.{printed_value}
use Rattle.wire_frame.specs.declared.frame.Frame.{Frame}
use Rattle.wire_frame.specs.declared.frame.Frame.TheVariants.{Subscribe, Unsubscribe, Sources, Carried, Changed}
use Rattle.wire_frame.specs.declared.place_clock.PlaceClock.{PlaceClock}
use Rattle.trace_text.specs.Lines.{comma_list}
use Rattle.qprop_cli.specs.Numbers.{number_text}

-- a place and its clock
abbrev pub place_text : PlaceClock → List ℕ
place_text named = number_text named.place ++ codes ":" ++ number_text named.clock

-- the places with their clocks, or `-` for none
abbrev pub places_text : List PlaceClock → List ℕ
places_text [] = codes "-"
places_text (first ∷ others) = comma_list place_text (first ∷ others)

-- a line for each kind of frame; a value of version 1 is a `value`, and one of version 2 a `value2`
abbrev pub frame_line : Frame → List ℕ
frame_line (Subscribe epoch) = codes "subscribe " ++ number_text epoch ++ codes "\n"
frame_line (Unsubscribe epoch) = codes "unsubscribe " ++ number_text epoch ++ codes "\n"
frame_line (Sources announced) = codes "sources " ++ number_text announced.epoch ++ codes " " ++ comma_list number_text announced.keys ++ codes "\n"
frame_line (Carried cargo) =
    codes "value " ++ number_text cargo.epoch ++ codes " " ++ printed_value cargo.value ++ codes " clocks " ++ comma_list number_text cargo.clocks ++ codes "\n"
frame_line (Changed delta) =
    codes "value2 " ++ number_text delta.epoch ++ codes " " ++ printed_value delta.value ++ codes " clocks " ++ places_text delta.clocks ++ codes "\n"
