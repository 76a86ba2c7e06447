use Rattle.std.proofs.Common.{◌≤◌, ◌+◌, length}
use Rattle.qprop_cli.proofs.StreamLemmas.{IsReadSoFar}
use Rattle.qprop_cli.proofs.commands.frames.stream.frames_text.Given as goal

abbrev pub invariant-loop-rest : goal.invariant-loop-rest
invariant-loop-rest l = record {
  few : l.number + length l.rest ≤ 1048577;
  so_far : IsReadSoFar l.bytes l.text.items l.rest l.number;
}

abbrev pub decreases-loop-rest : goal.decreases-loop-rest
decreases-loop-rest l = length l.rest
