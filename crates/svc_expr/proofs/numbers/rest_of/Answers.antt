use Rattle.std.proofs.Common.{◌∙◌}
use Rattle.svc_expr.proofs.NumberLemmas.{remainder_is}
use Rattle.svc_expr.proofs.numbers.rest_of.Goals as goal

pub returns : goal.returns
returns c = c.fitted.ensures ∙ remainder_is c.args.x c.args.y c.ranges.x c.ranges.y c.if-y-eq0.false
