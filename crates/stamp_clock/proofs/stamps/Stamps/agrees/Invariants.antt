use Rattle.stamp_clock.proofs.JoinLemmas.{IsRest, AgreeBut}
use Rattle.stamp_clock.proofs.stamps.Stamps.agrees.Given as goal

abbrev pub invariant-loop-key : goal.invariant-loop-key
invariant-loop-key l = record {
  pairs : IsRest l.key-iterator l.self l.pairs;
  others : IsRest l.key-iterator l.other l.other_pairs;
  agree : AgreeBut l.key-iterator l.self l.other;
}
