use Rattle.std.proofs.Common.{◌≡◌, ◌++◌, length}
use Rattle.std.specs.Fmt.{decimal}
use Rattle.trace_text.specs.Entries.{ArePicks}
use Rattle.trace_text.proofs.Listing.{before_commas}
use Rattle.trace_text.proofs.reading.picks.read_some_picks.Given as goal

abbrev pub invariant-loop-digits : goal.invariant-loop-digits
invariant-loop-digits l = ArePicks l.picks.items × (before_commas decimal l.picks.items ++ l.rest ≡ l.fn.text)

abbrev pub decreases-loop-digits : goal.decreases-loop-digits
decreases-loop-digits l = length l.rest
