use Rattle.std.proofs.Common.{◌≡◌, ◌+◌, ◌*◌, ◌-◌, ◌≤◌, vec_len, vec_capacity}
use Rattle.wire_frame.specs.Runs.{clock_items}
use Rattle.wire_frame.proofs.Reading.{IsReading}
use Rattle.wire_frame.proofs.lists.clocks_of.Given as goal

abbrev pub invariant-loop : goal.invariant-loop
invariant-loop l = record {
  reading : IsReading clock_items 0 l.count l.bytes l.at l.clocks.items 0 (l.count - l.counter) l.to;
  to : l.to ≡ l.at + 4 * l.counter;
  len : vec_len l.clocks ≡ l.counter;
  capacity : l.count ≤ vec_capacity l.clocks;
}
