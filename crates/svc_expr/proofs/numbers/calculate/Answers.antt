use Rattle.std.proofs.Common.{◌∙◌, sym, ap}
use Rattle.svc_expr.specs.declared.expr.Op.{Op}
use Rattle.svc_expr.specs.Meaning.{of_numbers}
use Rattle.svc_expr.proofs.NumberLemmas.{product_is}
use Rattle.svc_expr.proofs.numbers.calculate.Goals as goal

pub returns-in-Mul : goal.returns-in-Mul
returns-in-Mul c =
    c.fitted-in-Mul.ensures
    ∙ product_is c.args.x c.args.y c.ranges.x c.ranges.y
    ∙ ap (λ (op : Op). of_numbers op c.args.x c.args.y) (sym c.in-Mul.is)
