-- Frames that are to be sent, as the outbox and as the log have them.
use Rattle.std.specs.Prelude.{ℕ, List, map}
use Rattle.node_core.specs.declared.entry.Entry.{Entry}
use Rattle.node_core.specs.declared.entry.Entry.TheVariants.{Sent}
use Rattle.node_core.specs.declared.outgoing.OutgoingFrame.{OutgoingFrame}

-- each with its receiver, as it waits
abbrev pub waiting_frames : List OutgoingFrame → List (ℕ × List ℕ)
waiting_frames outgoing_frames = map (λ outgoing_frame. (outgoing_frame.to, outgoing_frame.waiting)) outgoing_frames

-- the entries
abbrev pub log_entries : List OutgoingFrame → List Entry
log_entries outgoing_frames = map (λ outgoing_frame. Sent outgoing_frame.to outgoing_frame.logged) outgoing_frames
