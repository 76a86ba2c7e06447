use Rattle.std.proofs.Common.{◌+◌, ◌*◌}
use Rattle.svc_expr.specs.Tree.{tree_of, nodes}
use Rattle.svc_expr.proofs.printing.+printing.Given as goal

abbrev pub decreases-append : goal.decreases-append
decreases-append l = 8 * nodes (tree_of l.expr.now)

abbrev pub decreases-append_then : goal.decreases-append_then
decreases-append_then l = 8 * nodes (tree_of l.a.now) + 1

abbrev pub decreases-append_call : goal.decreases-append_call
decreases-append_call l = 8 * nodes (tree_of l.a.now) + 2

abbrev pub decreases-append_bracketed : goal.decreases-append_bracketed
decreases-append_bracketed l = 8 * nodes (tree_of l.expr.now) + 3

abbrev pub decreases-append_negated : goal.decreases-append_negated
decreases-append_negated l = 8 * nodes (tree_of l.a.now) + 4

abbrev pub decreases-append_denied : goal.decreases-append_denied
decreases-append_denied l = 8 * nodes (tree_of l.a.now) + 4

abbrev pub decreases-append_two : goal.decreases-append_two
decreases-append_two l = 8 * (nodes (tree_of l.a.now) + nodes (tree_of l.b.now)) + 2

abbrev pub decreases-append_pair : goal.decreases-append_pair
decreases-append_pair l = 8 * (nodes (tree_of l.a.now) + nodes (tree_of l.b.now)) + 3

abbrev pub decreases-append_choice : goal.decreases-append_choice
decreases-append_choice l = 8 * (nodes (tree_of l.c.now) + nodes (tree_of l.a.now) + nodes (tree_of l.b.now)) + 3
