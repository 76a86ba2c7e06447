use Rattle.settle_core.specs.Inside.Joining.{AddsFrames}
use Rattle.settle_core.proofs.joining.append_all.Given as goal

abbrev pub invariant-loop-bytes : goal.invariant-loop-bytes
invariant-loop-bytes l = AddsFrames l.fn.reader l.fn.sender l.yielded l.fn.links.items l.links.items
