use Rattle.std.proofs.Common.{◌≡◌, ◌++◌, length}
use Rattle.std.specs.Prelude.{All}
use Rattle.trace_text.specs.Inside.Cutting.{IsStampOf}
use Rattle.trace_text.specs.Lines.{stamp_text}
use Rattle.trace_text.specs.Naming.{naming_of}
use Rattle.trace_text.proofs.Listing.{before_commas}
use Rattle.trace_text.proofs.reading.stamps.read_some_stamps.Given as goal

abbrev pub invariant-loop-front : goal.invariant-loop-front
invariant-loop-front l = All (IsStampOf (length l.names)) l.list.items × (before_commas (stamp_text (naming_of l.names)) l.list.items ++ l.rest ≡ l.fn.text)

abbrev pub decreases-loop-front : goal.decreases-loop-front
decreases-loop-front l = length l.rest
