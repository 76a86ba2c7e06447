use Rattle.std.proofs.Common.{◌≡◌, ◌+◌, ◌*◌, ◌-◌, ◌≤◌, List}
use Rattle.wire_frame.specs.declared.place_clock.PlaceClock.{PlaceClock}
use Rattle.wire_frame.specs.Runs.{place_items}
use Rattle.wire_frame.proofs.Reading.{IsReading}
use Rattle.wire_frame.proofs.lists.places_of.Given as goal

abbrev pub invariant-loop-i : goal.invariant-loop-i
invariant-loop-i l = record {
  done : List PlaceClock;
  reading : IsReading place_items 0 l.count l.bytes l.at done l.least (l.count - l.i) l.to;
  to : l.to ≡ l.at + 5 * l.i;
  room : l.least + (l.count - l.i) ≤ 64;
}
