use Rattle.std.proofs.Common.{◌∙◌}
use Rattle.svc_graph.proofs.Keeping.{HasBodies-more, HasBodies-formula, definitions-more, definitions-formula}
use Rattle.svc_graph.proofs.Lists.{on_err}
use Rattle.svc_graph.specs.declared.history.Body.{Body}
use Rattle.svc_graph.proofs.history.History.push_formula.Goals as goal

pub invariant_of-self-in_err-push-2 : goal.invariant_of-self-in_err-push-2
invariant_of-self-in_err-push-2 c =
    let body : Body = record { expr = c.args.formula.expr; fixed = c.args.formula.fixed } in
    rw (c.in_ok-push.ensures.items, c.in_err-push-2.ensures.items) (HasBodies-more body c.self.invariant)

pub returns-in_err-push-2-clause-err : goal.returns-in_err-push-2-clause-err
returns-in_err-push-2-clause-err c =
    let body : Body = record { expr = c.args.formula.expr; fixed = c.args.formula.fixed } in
    on_err c.from_residual-in_err-push-2.result (rw (c.in_ok-push.ensures.items, c.in_err-push-2.ensures.items) (definitions-more body c.self.invariant ∙ c.self.view_is))

pub invariant_of-self-2 : goal.invariant_of-self-2
invariant_of-self-2 c =
    let body : Body = record { expr = c.args.formula.expr; fixed = c.args.formula.fixed } in
    rw (c.in_ok-push.ensures.items, c.in_ok-push-2.ensures.items, c.len-number.ensures, c.self.inside.bodies.ok.0) (HasBodies-formula body c.args.formula.members c.self.invariant)

pub returns-clause-ok : goal.returns-clause-ok
returns-clause-ok c =
    let body : Body = record { expr = c.args.formula.expr; fixed = c.args.formula.fixed } in
    rw (c.in_ok-push.ensures.items, c.in_ok-push-2.ensures.items, c.len-number.ensures, c.self.inside.bodies.ok.0, ← c.self.view_is) (definitions-formula body c.args.formula.members c.self.invariant)
