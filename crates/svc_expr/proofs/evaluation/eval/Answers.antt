use Rattle.std.proofs.Common.{subst, sym}
use Rattle.svc_expr.specs.Tree.{tree_of}
use Rattle.svc_expr.specs.Meaning.{IsNoText}
use Rattle.svc_expr.proofs.MeaningLemmas.{no_text}
use Rattle.svc_expr.proofs.evaluation.eval.Goals as goal

pub returns-in_ok-part-in-Unknown-clause-no_memory : goal.returns-in_ok-part-in-Unknown-clause-no_memory
returns-in_ok-part-in-Unknown-clause-no_memory c = λ f h. c.into_value.ensures.no_memory (subst IsNoText (sym c.in_ok-part-in-Unknown.ensures.value) (no_text (tree_of c.args.expr.now) c.args.given.now c.args.members.now f h))

pub returns-in_err-copy-in-Text-clause-no_memory : goal.returns-in_err-copy-in-Text-clause-no_memory
returns-in_err-copy-in-Text-clause-no_memory c = λ f h. absurd (subst IsNoText c.in-Text.ensures (no_text (tree_of c.args.expr.now) c.args.given.now c.args.members.now f h))
