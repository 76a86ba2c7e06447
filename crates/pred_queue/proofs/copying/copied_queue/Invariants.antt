use Rattle.std.proofs.Common.{◌≡◌, map}
use Rattle.pred_queue.proofs.copying.copied_queue.Given as goal

abbrev pub invariant-loop-waiting : goal.invariant-loop-waiting
invariant-loop-waiting l = l.copy.items ≡ map (λ waiting. waiting.now) l.yielded
