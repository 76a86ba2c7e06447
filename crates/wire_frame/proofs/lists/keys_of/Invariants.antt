use Rattle.std.proofs.Common.{◌≡◌, ◌+◌, ◌*◌, ◌-◌, ◌≤◌, ◌^◌, ℕ, List}
use Rattle.wire_frame.specs.Runs.{key_items}
use Rattle.wire_frame.proofs.Reading.{IsReading}
use Rattle.wire_frame.proofs.lists.keys_of.Given as goal

abbrev pub invariant-loop-i : goal.invariant-loop-i
invariant-loop-i l = record {
  done : List ℕ;
  reading : IsReading key_items 0 l.count l.bytes l.at done l.least (l.count - l.i) l.to;
  to : l.to ≡ l.at + 2 * l.i;
  room : l.least + (l.count - l.i) ≤ 2 ^ 16;
}
