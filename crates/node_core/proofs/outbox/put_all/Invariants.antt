use Rattle.std.proofs.Common.{◌≡◌, ◌+◌, ◌≤◌, ◌++◌, length, vec_len, vec_capacity, deque_len, deque_capacity}
use Rattle.node_core.specs.OutgoingFrames.{waiting_frames, log_entries}
use Rattle.node_core.proofs.outbox.put_all.Given as goal

abbrev pub invariant-loop : goal.invariant-loop
invariant-loop l =
    (l.counter + length l.outgoing_frames.items ≡ l.end) × (l.end ≡ length l.fn.outgoing_frames.items)
    × (l.log.items ++ log_entries l.outgoing_frames.items ≡ l.fn.log.items ++ log_entries l.fn.outgoing_frames.items) × (vec_capacity l.fn.log ≤ vec_capacity l.log)
    × (vec_len l.log + length l.outgoing_frames.items ≡ vec_len l.fn.log + length l.fn.outgoing_frames.items)
    × (l.outbox.items ++ waiting_frames l.outgoing_frames.items ≡ l.fn.outbox.items ++ waiting_frames l.fn.outgoing_frames.items) × (deque_capacity l.outbox ≡ deque_capacity l.fn.outbox)
    × (deque_len l.outbox + length l.outgoing_frames.items ≡ deque_len l.fn.outbox + length l.fn.outgoing_frames.items)
