use Rattle.std.proofs.Common.{◌≡◌, ◌-◌, ◌≤◌, length, take}
use Rattle.svc_value.proofs.literal.common_len.Given as goal

abbrev pub invariant-loop-common : goal.invariant-loop-common
invariant-loop-common l = (l.common ≤ length l.left) × (l.common ≤ length l.right) × (take l.common l.left ≡ take l.common l.right)

abbrev pub decreases-loop-common : goal.decreases-loop-common
decreases-loop-common l = length l.left - l.common
