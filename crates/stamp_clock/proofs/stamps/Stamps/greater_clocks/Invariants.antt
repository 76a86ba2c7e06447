use Rattle.std.proofs.Common.{◌≡◌, map, max}
use Rattle.propagation.specs.Stamps.{clock_of}
use Rattle.stamp_clock.proofs.JoinLemmas.{IsRest}
use Rattle.stamp_clock.proofs.stamps.Stamps.greater_clocks.Given as goal

abbrev pub invariant-loop-key : goal.invariant-loop-key
invariant-loop-key l = record {
  pairs : IsRest l.key-iterator l.self l.pairs;
  others : IsRest l.key-iterator l.other l.other_pairs;
  clocks : l.clocks.items ≡ map (λ q. max (clock_of l.self q) (clock_of l.other q)) l.yielded;
}
