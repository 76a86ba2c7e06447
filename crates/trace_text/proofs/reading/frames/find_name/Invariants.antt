use Rattle.std.proofs.Common.{◌≢◌, ℕ, ◌<◌}
use Rattle.trace_text.specs.Naming.{naming_of}
use Rattle.trace_text.proofs.reading.frames.find_name.Given as goal

abbrev pub invariant-loop-i : goal.invariant-loop-i
invariant-loop-i l = (n : ℕ) → n < l.i → l.word ≢ naming_of l.names n
