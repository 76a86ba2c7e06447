use Rattle.std.proofs.Common.{◌≡◌, ◌∙◌, List, All, Err, ap, sym, subst, true≢false}
use Rattle.std.proofs.lemmas.Result.{err_from_is_err_and}
use Rattle.svc_graph.specs.Book.{IsBook}
use Rattle.svc_token.specs.Word.{IsName}
use Rattle.saved_state.specs.Bytes.{state_bytes}
use Rattle.saved_state.specs.declared.saved.ServiceRow.{ServiceRow}
use Rattle.saved_state.specs.Named.{IsFormed, IsNamedRow}
use Rattle.saved_state.specs.States.{names_in, rows_of}
use Rattle.saved_state.proofs.JudgingLemmas.{error_is}
use Rattle.saved_state.proofs.NamingLemmas.{rows_formed, rows_named}
use Rattle.saved_state.proofs.StateLemmas.{state_read, services_back, known_back, book_back}
use Rattle.saved_state.proofs.reading.read_state.Goals as goal

pub returns-in_err-services-clause-bad : goal.returns-in_err-services-clause-bad
returns-in_err-services-clause-bad c e saved is =
    let p = err_from_is_err_and c.from_residual-in_err-services.result c.from_residual-in_err-services.ensures.1 in
    let found = c.in_ok-leg.ensures.reads saved is in
    c.in_err-services.ensures.bad (ap Err (sym p.2 ∙ error_is _ _ (sym p.1 ∙ e))) (known_back saved c.as_slice.result.now is.state (c.as_slice.ensures ∙ found.1))

pub judge-requires-clause-formed : goal.judge-requires-clause-formed
judge-requires-clause-formed c =
    subst (All IsFormed) (sym (c.as_slice-2.ensures ∙ c.in_ok-services.ensures.services))
    (rows_formed c.as_slice.result.now c.in_ok-services.ensures.known (subst (All IsNamedRow) (sym c.as_slice.ensures) c.in_ok-leg.ensures.rows))

pub judge-requires-clause-names : goal.judge-requires-clause-names
judge-requires-clause-names c =
    subst (λ (services : List ServiceRow). All IsName (names_in services)) (sym (c.as_slice-2.ensures ∙ c.in_ok-services.ensures.services))
    (rows_named c.as_slice.result.now (subst (All IsNamedRow) (sym c.as_slice.ensures) c.in_ok-leg.ensures.rows))

pub returns-in_err-judge-clause-bad : goal.returns-in_err-judge-clause-bad
returns-in_err-judge-clause-bad c e saved is =
    let p = err_from_is_err_and c.from_residual-in_err-judge.result c.from_residual-in_err-judge.ensures.1 in
    let found = c.in_ok-leg.ensures.reads saved is in
    let same = services_back saved c.as_slice.result.now c.in_ok-services.services is.state (c.as_slice.ensures ∙ found.1) c.in_ok-services.ensures.services in
    c.in_err-judge.ensures.bad (ap Err (sym p.2 ∙ error_is _ _ (sym p.1 ∙ e))) (book_back saved c.as_slice-2.result.now is.state (c.as_slice-2.ensures ∙ same))

pub is_written-requires : goal.is_written-requires
is_written-requires c =
    state_read c.in_ok-leg.leg c.as_slice.result.now c.in_ok-services.services c.in_ok-services.ensures.services c.in_ok-leg.ensures.leg.0 c.in_ok-leg.ensures.leg.1
    (subst (All IsNamedRow) (sym c.as_slice.ensures) c.in_ok-leg.ensures.rows) c.in_ok-services.ensures.known
    (subst (λ (services : List ServiceRow). IsBook (rows_of services)) c.as_slice-2.ensures c.in_ok-judge.ensures.ok)

pub returns-then-not-branch-clause-bad : goal.returns-then-not-branch-clause-bad
returns-then-not-branch-clause-bad c e saved is =
    let found = c.in_ok-leg.ensures.reads saved is in
    let same = services_back saved c.as_slice.result.now c.in_ok-services.services is.state (c.as_slice.ensures ∙ found.1) c.in_ok-services.ensures.services in
    let whole : state_bytes (record { leg = c.in_ok-leg.leg; services = c.in_ok-services.services }) ≡ state_bytes saved = λ i. state_bytes (record { leg = found.0 i; services = same i }) in
    true≢false (sym (c.in_ok-is_written.ensures.same.1 (is.is ∙ sym whole)) ∙ c.if-not-branch.true)

pub returns-clause-ok : goal.returns-clause-ok
returns-clause-ok c = record {
  state = state_read c.in_ok-leg.leg c.as_slice.result.now c.in_ok-services.services c.in_ok-services.ensures.services c.in_ok-leg.ensures.leg.0 c.in_ok-leg.ensures.leg.1
      (subst (All IsNamedRow) (sym c.as_slice.ensures) c.in_ok-leg.ensures.rows) c.in_ok-services.ensures.known
      (subst (λ (services : List ServiceRow). IsBook (rows_of services)) c.as_slice-2.ensures c.in_ok-judge.ensures.ok);
  fits = c.in_ok-is_written.ensures.fits;
  is = c.in_ok-is_written.ensures.same.0 c.if-not-branch.false;
}
