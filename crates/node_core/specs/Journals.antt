-- How the fields of a journal are what contracts see.
use Rattle.std.specs.Prelude.{ℕ, ◌+◌, ◌-◌, ◌≤◌}
use Rattle.std.specs.Vec.{vec_len, vec_capacity}
use Rattle.std.specs.VecDeque.{deque_len, deque_capacity}
use Rattle.node_core.specs.declared.journal.Journal.TheInside.{Inside}
use Rattle.node_core.specs.Entries.{sent_to}
use Rattle.node_core.specs.Outbox.{AreShort}
use Rattle.node_core.specs.View.{JournalView, IsPosted}

-- what was done
abbrev pub kept_of : Inside → JournalView
kept_of j = record {
  entries = j.log.items;
  outbox = j.outbox.items;
  handed = j.handed;
  entry_room = vec_capacity j.log - vec_len j.log;
  outgoing_frame_room = deque_capacity j.outbox - (deque_len j.outbox + j.handed);
}

-- the frames that were sent are short, and there is room for what was handed over, so that it can come back
pub record IsJournal (j : Inside) : Type 0 where
  pub posted : IsPosted j.log.items j.outbox.items
  pub short : (q : ℕ) → AreShort (sent_to q j.log.items)
  pub room : deque_len j.outbox + j.handed ≤ deque_capacity j.outbox
