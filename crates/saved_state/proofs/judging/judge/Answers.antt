use Rattle.std.proofs.Common.{◌∙◌, subst, arith}
use Rattle.svc_graph.specs.Book.{IsBook}
use Rattle.saved_state.proofs.JudgingLemmas.{all_defined}
use Rattle.saved_state.proofs.judging.judge.Goals as goal

pub returns-clause-ok : goal.returns-clause-ok
returns-clause-ok c =
    subst IsBook (c.loop-number.invariant ∙ all_defined c.args.services.now c.loop-number.number (omega (arith, c.loop-number-test.false, c.loop-number.auto.number-end))) c.len.ensures.book
