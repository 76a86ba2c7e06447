-- Frames that are to be sent, as the outbox and as the log have them.
use Rattle.std.proofs.Common.{◌≡◌, ℕ, suc, List, [], ◌∷◌, ◌++◌, length, refl, ap}
use Rattle.node_core.specs.declared.entry.Entry.TheVariants.{Sent}
use Rattle.node_core.specs.declared.outgoing.OutgoingFrame.{OutgoingFrame}
use Rattle.node_core.specs.Entries.{sent_entries}
use Rattle.node_core.specs.OutgoingFrames.{waiting_frames, log_entries}

-- one more
pub waiting_frames_snoc : (outgoing_frames : List OutgoingFrame) (outgoing_frame : OutgoingFrame) → waiting_frames (outgoing_frames ++ outgoing_frame ∷ []) ≡ waiting_frames outgoing_frames ++ (outgoing_frame.to, outgoing_frame.waiting) ∷ []
waiting_frames_snoc [] outgoing_frame = refl
waiting_frames_snoc (x ∷ outgoing_frames) outgoing_frame = ap (λ zs. (x.to, x.waiting) ∷ zs) (waiting_frames_snoc outgoing_frames outgoing_frame)

pub log_entries_snoc : (outgoing_frames : List OutgoingFrame) (outgoing_frame : OutgoingFrame) → log_entries (outgoing_frames ++ outgoing_frame ∷ []) ≡ log_entries outgoing_frames ++ Sent outgoing_frame.to outgoing_frame.logged ∷ []
log_entries_snoc [] outgoing_frame = refl
log_entries_snoc (x ∷ outgoing_frames) outgoing_frame = ap (λ zs. Sent x.to x.logged ∷ zs) (log_entries_snoc outgoing_frames outgoing_frame)

pub sent_snoc : (outgoing : List (ℕ × List ℕ)) (q : ℕ) (bytes : List ℕ) → sent_entries (outgoing ++ (q, bytes) ∷ []) ≡ sent_entries outgoing ++ Sent q bytes ∷ []
sent_snoc [] q bytes = refl
sent_snoc (x ∷ outgoing) q bytes = ap (λ zs. Sent x.0 x.1 ∷ zs) (sent_snoc outgoing q bytes)

-- as many
pub length_waiting_frames : (outgoing_frames : List OutgoingFrame) → length (waiting_frames outgoing_frames) ≡ length outgoing_frames
length_waiting_frames [] = refl
length_waiting_frames (x ∷ outgoing_frames) = ap (λ n. suc n) (length_waiting_frames outgoing_frames)
