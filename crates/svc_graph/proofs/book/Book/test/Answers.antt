use Rattle.std.proofs.Common.{◌≡◌, ◌∙◌, option_map, ap, sym}
use Rattle.std.proofs.lemmas.Result.{on_ok_weaker, IfErr-weaker}
use Rattle.svc_graph.proofs.Rows.{roster_of-book}
use Rattle.svc_graph.specs.History.{present, roster_of}
use Rattle.svc_graph.specs.Lent.{definition_lent}
use Rattle.svc_graph.specs.Refusals.{refusal_of, first_error}
use Rattle.svc_graph.proofs.book.Book.test.Goals as goal
use Rattle.svc_graph.proofs.book.Book.test.Goals.{After-check}

-- the test of the columns is that of the rows
same : (c : After-check) → first_error c.as_slice.result.now c.args.id (option_map definition_lent c.present-last.result) c.args.change.now ≡ refusal_of c.args.self.now c.args.id c.args.change.now
same c =
    let kinds = c.as_slice.ensures.value ∙ sym (roster_of-book c.self.invariant) ∙ ap roster_of c.self.view_is in
    let last = c.present-last.ensures ∙ ap present c.history.ensures.history in
    λ i. first_error (kinds i) c.args.id (last i) c.args.change.now

pub returns-clause-passes : goal.returns-clause-passes
returns-clause-passes c = on_ok_weaker c.check.result (λ h. sym (same c) ∙ h) c.check.ensures.ok

pub returns-clause-refused : goal.returns-clause-refused
returns-clause-refused c = IfErr-weaker c.check.result _ _ (λ e h other. sym (same c) ∙ h other) c.check.ensures.refused
