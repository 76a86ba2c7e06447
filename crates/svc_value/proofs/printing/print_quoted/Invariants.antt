use Rattle.std.proofs.Common.{◌≡◌, [], ◌++◌, ◌∷◌, length}
use Rattle.std.specs.List.{flat_map}
use Rattle.std.specs.Io.{StartsWith}
use Rattle.svc_value.specs.Printed.{quoted_byte}
use Rattle.svc_value.proofs.printing.print_quoted.Given as goal

abbrev pub invariant-loop-count : goal.invariant-loop-count
invariant-loop-count l =
    StartsWith l.out.items l.fn.out.items ×
    (l.out.items ++ flat_map quoted_byte l.rest ≡ (l.fn.out.items ++ 34 ∷ []) ++ flat_map quoted_byte l.text)

abbrev pub decreases-loop-count : goal.decreases-loop-count
decreases-loop-count l = length l.rest
