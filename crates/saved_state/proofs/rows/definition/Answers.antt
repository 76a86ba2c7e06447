use Rattle.std.proofs.lemmas.Result.{err_from_is_err_and}
use Rattle.std.proofs.Common.{arith}
use Rattle.saved_state.specs.declared.named.NamedDefinition.TheVariants.{Input, Derived}
use Rattle.saved_state.proofs.rows.definition.Goals as goal

pub returns-in_err-formula-clause-reads : goal.returns-in_err-formula-clause-reads
returns-in_err-formula-clause-reads c (Input value) more h fits is = absurd (omega arith)
returns-in_err-formula-clause-reads c (Derived formula) more h fits is =
    let p = err_from_is_err_and c.from_residual-in_err-formula.result c.from_residual-in_err-formula.ensures.1 in
    rw (p.1, p.2) (c.in_err-formula.ensures.reads formula more h.1 fits is)
