-- Frames whose keys and places are lent by their bytes, as frames.
use Rattle.wire_frame.specs.declared.frame.Frame.{Frame}
use Rattle.wire_frame.specs.declared.frame.Frame.TheVariants.{Subscribe, Unsubscribe, Sources, Carried, Changed}
use Rattle.wire_frame.specs.declared.frame.Announced.{Announced}
use Rattle.wire_frame.specs.declared.frame.Delta.{Delta}
use Rattle.wire_frame.specs.declared.frame_ref.FrameRef.{FrameRef}
use Rattle.wire_frame.specs.declared.frame_ref.FrameRef.TheVariants as lent
use Rattle.wire_frame.specs.declared.frame_ref.AnnouncedRef.{AnnouncedRef}
use Rattle.wire_frame.specs.declared.frame_ref.DeltaRef.{DeltaRef}

-- the epoch with its keys in a list
abbrev pub announced_in : AnnouncedRef → Announced
announced_in announced = record { epoch = announced.epoch; keys = announced.keys }

-- the value with its places in a list
abbrev pub delta_in : DeltaRef → Delta
delta_in delta = record { epoch = delta.epoch; value = delta.value; clocks = delta.clocks }

-- the frame with its keys or its places in a list
abbrev pub frame_in : FrameRef → Frame
frame_in (lent.Subscribe epoch) = Subscribe epoch
frame_in (lent.Unsubscribe epoch) = Unsubscribe epoch
frame_in (lent.Sources announced) = Sources (announced_in announced)
frame_in (lent.Carried cargo) = Carried cargo
frame_in (lent.Changed delta) = Changed (delta_in delta)
