use Rattle.std.proofs.Common.{◌≡◌, ◌∙◌, ◌+◌, ◌<◌, All, Some, get_or, set, length, is_some, option_map, sym, ap, subst, arith}
use Rattle.std.proofs.lemmas.List.{get_or_default}
use Rattle.central_eval.proofs.Evaluating.{AreCentral-done, AreWhole-born, Progress, Progress-more, dependencies-declared, few-dependencies, is_some-option_map, present-born}
use Rattle.propagation.specs.History.{definition_at, now}
use Rattle.svc_graph.proofs.Ordered.{services_within}
use Rattle.svc_graph.proofs.Theory.{definition-now}
use Rattle.central_eval.specs.Values.{value_by}
use Rattle.svc_graph.specs.History.{dependencies, history_of, present, theory}
use Rattle.svc_graph.specs.Lent.{definition_lent}
use Rattle.central_eval.proofs.evaluation.central.Goals as goal

pub loop-id-init : goal.loop-id-init
loop-id-init c = record {
  all = rw c.as_slice-id-items.ensures c.in_ok-order.ensures.all;
  order = rw c.as_slice-id-items.ensures c.in_ok-order.ensures.ordered;
  count = c.in_ok-values.ensures ∙ c.len.ensures.len;
  done = λ j below there. absurd (omega arith);
}

pub history-requires : goal.history-requires
history-requires c =
    let ids = c.as_slice-id-items.result.now in
    let k = c.loop-id.id-index in
    let item : get_or ids k 0 ≡ c.id-item.result = get_or_default ids k 0 c.id-item.result c.loop-id-test.true ∙ sym c.id-item.is in
    rw (← item) (services_within c.args.book.now ids c.loop-id.invariant.all k c.loop-id-test.true)

pub unwrap-definition-requires : goal.unwrap-definition-requires
unwrap-definition-requires c =
    let ids = c.as_slice-id-items.result.now in
    let k = c.loop-id.id-index in
    let item : get_or ids k 0 ≡ c.id-item.result = get_or_default ids k 0 c.id-item.result c.loop-id-test.true ∙ sym c.id-item.is in
    let within : c.id-item.result < length c.args.book.now = rw (← item) (services_within c.args.book.now ids c.loop-id.invariant.all k c.loop-id-test.true) in
    sym (is_some-option_map definition_lent c.present.result) ∙ ap is_some (c.present.ensures ∙ ap present c.history.ensures.history) ∙ present-born (history_of c.args.book.now c.id-item.result) (c.requires c.id-item.result within)

pub put_value-requires-clause-few : goal.put_value-requires-clause-few
put_value-requires-clause-few c =
    let rows = c.args.book.now in
    let n = c.id-item.result in
    let defined = definition-now rows n ∙ sym (c.present.ensures ∙ ap present c.history.ensures.history) ∙ ap (option_map definition_lent) c.unwrap-definition.ensures in
    few-dependencies rows n (now (theory rows) n) (definition_lent c.unwrap-definition.result) c.len.ensures.book defined

pub put_value-requires-clause-below : goal.put_value-requires-clause-below
put_value-requires-clause-below c =
    let rows = c.args.book.now in
    let n = c.id-item.result in
    let d = definition_lent c.unwrap-definition.result in
    let defined = definition-now rows n ∙ sym (c.present.ensures ∙ ap present c.history.ensures.history) ∙ ap (option_map definition_lent) c.unwrap-definition.ensures in
    subst (λ m. All (λ p. p < m) (dependencies d)) (sym c.loop-id.invariant.count) (dependencies-declared rows n (now (theory rows) n) d c.len.ensures.book defined)

pub loop-id-preserved : goal.loop-id-preserved
loop-id-preserved c =
    let rows = c.args.book.now in
    let n = c.id-item.result in
    let ids = c.as_slice-id-items.result.now in
    let k = c.loop-id.id-index in
    let d = definition_lent c.unwrap-definition.result in
    let item : get_or ids k 0 ≡ n = get_or_default ids k 0 n c.loop-id-test.true ∙ sym c.id-item.is in
    let defined : definition_at (theory rows) (get_or ids k 0) (now (theory rows) (get_or ids k 0)) ≡ Some d =
    ap (λ m. definition_at (theory rows) m (now (theory rows) m)) item ∙ definition-now rows n ∙ sym (c.present.ensures ∙ ap present c.history.ensures.history) ∙ ap (option_map definition_lent) c.unwrap-definition.ensures in
    subst (Progress rows (now (theory rows)) ids (k + 1))
    (ap (λ m. set c.loop-id.values.items m (value_by d c.loop-id.values.items)) item ∙ sym c.in_ok-put_value.ensures)
    (Progress-more rows (now (theory rows)) ids k c.loop-id.values.items d c.len.ensures.book (AreWhole-born rows c.len.ensures.book c.requires) c.loop-id-test.true defined c.loop-id.invariant)

pub returns : goal.returns
returns c = AreCentral-done c.args.book.now c.as_slice-id-items.result.now c.loop-id.id-index c.loop-id.values.items c.requires (omega (arith, c.loop-id-test.false)) c.loop-id.invariant
