use Rattle.std.proofs.Common.{length}
use Rattle.svc_graph.proofs.checks.+repeats.Given as goal

abbrev pub decreases-repeats : goal.decreases-repeats
decreases-repeats l = length l.members.now
