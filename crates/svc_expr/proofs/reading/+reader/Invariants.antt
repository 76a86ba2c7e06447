use Rattle.std.proofs.Common.{◌≡◌, ◌+◌, ◌-◌, ◌*◌}
use Rattle.svc_expr.specs.Grammar.{tighter}
use Rattle.svc_expr.specs.Reading.{naming, inner, level_at, chain}
use Rattle.svc_expr.specs.SizedExpr.{fit, part_of}
use Rattle.svc_expr.proofs.Steps.{rank}
use Rattle.svc_expr.proofs.reading.+reader.Given as goal

abbrev pub decreases-behind_if : goal.decreases-behind_if
decreases-behind_if l = l.room * 32 + 2

abbrev pub decreases-behind_then : goal.decreases-behind_then
decreases-behind_then l = l.room * 32 + 1

abbrev pub decreases-call : goal.decreases-call
decreases-call l = l.room * 32 + 2

abbrev pub decreases-called : goal.decreases-called
decreases-called l = l.room * 32 + 1

abbrev pub decreases-comparison : goal.decreases-comparison
decreases-comparison l = l.room * 32 + 15

abbrev pub decreases-denial : goal.decreases-denial
decreases-denial l = l.room * 32 + 18

abbrev pub decreases-enter : goal.decreases-enter
decreases-enter l = l.room * 32

abbrev pub decreases-left : goal.decreases-left
decreases-left l = l.room * 32 + 3 * rank l.level

abbrev pub decreases-side : goal.decreases-side
decreases-side l = l.room * 32 + (3 * rank l.level - 1)

abbrev pub decreases-operand : goal.decreases-operand
decreases-operand l = l.room * 32 + 3

abbrev pub decreases-read : goal.decreases-read
decreases-read l = l.room * 32 + (3 * rank l.level + 1)

abbrev pub decreases-unary : goal.decreases-unary
decreases-unary l = l.room * 32 + 6

abbrev pub decreases-whole : goal.decreases-whole
decreases-whole l = l.room * 32 + 27

abbrev pub invariant-left-loop : goal.invariant-left-loop
invariant-left-loop l = chain fit (naming fit l.names) (level_at fit (naming fit l.names) (inner fit (naming fit l.names) l.room) (tighter l.level)) l.level (l.end - l.counter) (part_of l.part) l.rest ≡ level_at fit (naming fit l.names) (inner fit (naming fit l.names) l.room) l.level l.text
