use Rattle.std.proofs.Common.{subst, ap, sym, Err}
use Rattle.svc_expr.specs.Tree.{tree_of, IsSmall}
use Rattle.svc_expr.specs.Grammar.{IsExpression}
use Rattle.svc_expr.proofs.Laws.{one_expression}
use Rattle.saved_state.proofs.ExpressionLemmas.{reads_again, tokens_are, reading_is, named_expression}
use Rattle.saved_state.proofs.expressions.expression.Goals as goal

pub returns-in-Err-Bad-clause-reads : goal.returns-in-Err-Bad-clause-reads
returns-in-Err-Bad-clause-reads c reading h w e =
    let again = reads_again reading c.args.text.now h w e in
    c.in-Err-Bad.ensures.bad (ap Err c.in-Err-Bad.field-0-is) again.0 again.1

pub returns-in-Ok-read_tokens-clause-expression : goal.returns-in-Ok-read_tokens-clause-expression
returns-in-Ok-read_tokens-clause-expression c =
    named_expression c.in-Ok-read_tokens.reading c.args.text.now _ c.in-Ok.ensures.found (subst (λ ts. IsExpression ts (tree_of c.in-Ok-read_tokens.reading.expr) c.in-Ok-read_tokens.reading.names) c.deref.ensures.value c.in-Ok-read_tokens.ensures.found.0)
    c.in-Ok-read_tokens.ensures.found.1 c.in-Ok-read_tokens.ensures.count c.in-Ok-read_tokens.ensures.differ

pub returns-in-Ok-read_tokens-clause-reads : goal.returns-in-Ok-read_tokens-clause-reads
returns-in-Ok-read_tokens-clause-reads c reading h w e =
    reading_is c.in-Ok-read_tokens.reading reading c.deref.result.now c.in-Ok-read_tokens.ensures.found.0
    (subst (λ ts. IsExpression ts (tree_of reading.expr) reading.names) (sym c.deref.ensures.value) (tokens_are reading c.args.text.now _ h w e c.in-Ok.ensures.found))

pub returns-in-Err-Bad-read_tokens-clause-reads : goal.returns-in-Err-Bad-read_tokens-clause-reads
returns-in-Err-Bad-read_tokens-clause-reads c reading h w e =
    c.in-Err-Bad-read_tokens.ensures.bad (ap Err c.in-Err-Bad-read_tokens.field-0-is) (tree_of reading.expr) reading.names
    (subst (λ ts. IsExpression ts (tree_of reading.expr) reading.names) (sym c.deref.ensures.value) (tokens_are reading c.args.text.now _ h w e c.in-Ok.ensures.found))

pub returns-in-Err-TooLarge-clause-reads : goal.returns-in-Err-TooLarge-clause-reads
returns-in-Err-TooLarge-clause-reads c reading h w e =
    let large = c.in-Err-TooLarge.ensures.large (ap Err c.in-Err-TooLarge.field-0-is) in
    let mine = subst (λ ts. IsExpression ts (tree_of reading.expr) reading.names) (sym c.deref.ensures.value) (tokens_are reading c.args.text.now _ h w e c.in-Ok.ensures.found) in
    let same = one_expression c.deref.result.now large.0 (tree_of reading.expr) large.1 reading.names large.2 mine in
    large.3 (subst IsSmall (sym same.0) h.small)
