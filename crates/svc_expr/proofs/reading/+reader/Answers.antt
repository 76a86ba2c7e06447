use Rattle.std.proofs.Common.{◌≡◌, ◌-◌, ◌+◌, length, rules, subst, sym, ◌∙◌, ap, arith}
use Rattle.std.proofs.lemmas.Result.{err_from_is_err_and}
use Rattle.svc_expr.specs.Grammar.{tighter, call_of, aggregate_of}
use Rattle.svc_expr.specs.Reading.{naming, Part, Read, pair_part, inner, level_at, chain}
use Rattle.svc_expr.specs.SizedExpr.{fit, part_of, Gives}
use Rattle.svc_expr.proofs.Steps.{called_members, entered, not_entered, bound_ends, end_ends, op_ends, step_goes, step_fails}
use Rattle.svc_expr.proofs.reading.+reader.Goals as goal

pub enter-returns-then-room-eq0 : goal.enter-returns-then-room-eq0
enter-returns-then-room-eq0 t c = not_entered fit (naming fit c.args.names.now) c.args.room c.args.level c.args.rest.now (omega arith)

pub enter-returns : goal.enter-returns
enter-returns t c = subst (λ (r : Read). Gives (λ x. (part_of x.0, x.1.now)) c.read.result r) (sym (entered fit (naming fit c.args.names.now) c.args.room c.args.level c.args.rest.now (omega arith))) c.read.ensures

pub left-returns-in_default : goal.left-returns-in_default
left-returns-in_default t c = end_ends fit (naming fit c.args.names.now) (level_at fit (naming fit c.args.names.now) (inner fit (naming fit c.args.names.now) c.args.room) (tighter c.args.level)) c.args.level _ _ (part_of c.loop.part) c.loop.rest.now c.in_default.len_below c.loop.invariant

pub left-returns-in_default-joins : goal.left-returns-in_default-joins
left-returns-in_default-joins t c = op_ends fit (naming fit c.args.names.now) (level_at fit (naming fit c.args.names.now) (inner fit (naming fit c.args.names.now) c.args.room) (tighter c.args.level)) c.args.level _ _ (part_of c.loop.part) c.loop.rest.now c.token-item.result c.token-item.is c.in-len1-up.len_at_least (sym c.joins.ensures ∙ c.in_default-joins.is) c.loop.invariant

pub left-returns-in_err-other : goal.left-returns-in_err-other
left-returns-in_err-other t c =
    let p = err_from_is_err_and c.from_residual-in_err-other.result c.from_residual-in_err-other.ensures.1 in
    let next = level_at fit (naming fit c.args.names.now) (inner fit (naming fit c.args.names.now) c.args.room) (tighter c.args.level) in
    rw (p.1, p.2) (step_fails fit (naming fit c.args.names.now) next c.args.level (level_at fit (naming fit c.args.names.now) (inner fit (naming fit c.args.names.now) c.args.room) c.args.level c.args.text.now) c.in_err-other.field-0.0 (length c.in_ok-part.rest.now) c.loop.counter (part_of c.loop.part) c.loop.rest.now c.token-item.result c.in-Some.op c.loop-test.true c.token-item.is c.in-len1-up.len_at_least (sym c.joins.ensures ∙ c.in-Some.is) c.in_err-other.ensures c.loop.invariant)

pub left-loop-preserved : goal.left-loop-preserved
left-loop-preserved t c =
    let named = naming fit c.args.names.now in
    let next = level_at fit named (inner fit named c.args.room) (tighter c.args.level) in
    let q : part_of c.in_ok-part-2.part ≡ pair_part fit c.in-Some.op (part_of c.loop.part) (part_of c.in_ok-other.other) = search (rules, c.in_ok-part-2.ensures) in
    let s = step_goes fit named next c.args.level (level_at fit named (inner fit named c.args.room) c.args.level c.args.text.now) (length c.in_ok-part.rest.now) c.loop.counter (part_of c.loop.part) (part_of c.in_ok-other.other) c.loop.rest.now c.in_ok-other.behind.now c.token-item.result c.in-Some.op c.loop-test.true c.token-item.is c.in-len1-up.len_at_least (sym c.joins.ensures ∙ c.in-Some.is) c.in_ok-other.ensures c.loop.invariant in
    ap (λ (x : Part). chain fit named next c.args.level (length c.in_ok-part.rest.now - (c.loop.counter + 1)) x c.in_ok-other.behind.now) q ∙ s

pub left-returns : goal.left-returns
left-returns t c = bound_ends fit (naming fit c.args.names.now) (level_at fit (naming fit c.args.names.now) (inner fit (naming fit c.args.names.now) c.args.room) (tighter c.args.level)) c.args.level _ _ (part_of c.loop.part) c.loop.rest.now (omega arith) c.loop.invariant

pub called-returns-in_default : goal.called-returns-in_default
called-returns-in_default t c = subst (λ (r : Read). Gives (λ x. (part_of x.0, x.1.now)) c.member_call.result r) (sym (called_members fit (naming fit c.args.names.now) c.args.room (call_of c.args.keyword) (aggregate_of c.args.keyword) c.args.rest.now (sym c.call_of.ensures ∙ c.in_default.is))) c.member_call.ensures
