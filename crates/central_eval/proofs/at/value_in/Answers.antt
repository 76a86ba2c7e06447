use Rattle.std.proofs.Common.{◌≡◌, ◌∙◌, ◌+◌, ◌<◌, All, get_or, set, option_map, sym, ap, subst, arith}
use Rattle.std.proofs.lemmas.List.{get_or_default}
use Rattle.std.proofs.lemmas.Result.{IfOk-weaker}
use Rattle.central_eval.proofs.Evaluating.{Progress, Progress-more, Progress-past, central-done, definition-lent, dependencies-declared, few-dependencies}
use Rattle.central_eval.proofs.Marking.{AreWhole-reached, definition-reached}
use Rattle.propagation.specs.History.{CentralAt, Reach, definition_at}
use Rattle.propagation.specs.Stamps.{clock_of}
use Rattle.svc_graph.proofs.Ordered.{services_within}
use Rattle.central_eval.specs.Values.{nothing, value_at, value_by}
use Rattle.svc_graph.specs.History.{dependencies, theory}
use Rattle.svc_graph.specs.Lent.{definition_lent}
use Rattle.central_eval.proofs.at.value_in.Goals as goal
use Rattle.central_eval.proofs.at.value_in.Goals.{in-Some+in_ok-put_value, in_default}

pub loop-reader-init : goal.loop-reader-init
loop-reader-init c = record {
  all = rw c.as_slice-reader-items.ensures c.in_ok-order.ensures.all;
  order = rw c.as_slice-reader-items.ensures c.in_ok-order.ensures.ordered;
  count = c.in_ok-values.ensures ∙ c.len.ensures.len;
  done = λ j below there. absurd (omega arith);
}

pub history-requires : goal.history-requires
history-requires c =
    let ids = c.as_slice-reader-items.result.now in
    let k = c.loop-reader.reader-index in
    let item : get_or ids k 0 ≡ c.reader-item.result = get_or_default ids k 0 c.reader-item.result c.loop-reader-test.true ∙ sym c.reader-item.is in
    rw (← item) (services_within c.args.book.now ids c.loop-reader.invariant.all k c.loop-reader-test.true)

pub put_value-requires-clause-few : goal.put_value-requires-clause-few
put_value-requires-clause-few c =
    let rows = c.args.book.now in
    let defined = definition-lent rows c.reader-item.result c.clock_in.result c.history.result.now c.at.result c.history.ensures.history c.at.ensures ∙ ap (option_map definition_lent) c.in-Some.is in
    few-dependencies rows c.reader-item.result c.clock_in.result (definition_lent c.in-Some.definition) c.len.ensures.book defined

pub put_value-requires-clause-below : goal.put_value-requires-clause-below
put_value-requires-clause-below c =
    let rows = c.args.book.now in
    let d = definition_lent c.in-Some.definition in
    let defined = definition-lent rows c.reader-item.result c.clock_in.result c.history.result.now c.at.result c.history.ensures.history c.at.ensures ∙ ap (option_map definition_lent) c.in-Some.is in
    subst (λ m. All (λ p. p < m) (dependencies d)) (sym c.loop-reader.invariant.count) (dependencies-declared rows c.reader-item.result c.clock_in.result d c.len.ensures.book defined)

pub loop-reader-preserved : goal.loop-reader-preserved
loop-reader-preserved c =
    let rows = c.args.book.now in
    let S = clock_of c.args.stamps.now in
    let n = c.reader-item.result in
    let ids = c.as_slice-reader-items.result.now in
    let k = c.loop-reader.reader-index in
    let values = c.loop-reader.values.items in
    let item : get_or ids k 0 ≡ n = get_or_default ids k 0 n c.loop-reader-test.true ∙ sym c.reader-item.is in
    let lent : definition_at (theory rows) (get_or ids k 0) (S (get_or ids k 0)) ≡ option_map definition_lent c.at.result =
    ap (λ m. definition_at (theory rows) m (S m)) item ∙ ap (definition_at (theory rows) n) (sym c.clock_in.ensures) ∙
    definition-lent rows n c.clock_in.result c.history.result.now c.at.result c.history.ensures.history c.at.ensures in
    elim c.match-at.branch [
      | in-Some+in_ok-put_value w ↦
          let d = definition_lent w.in-Some.definition in
          subst (Progress rows S ids (k + 1))
          (ap (λ m. set values m (value_by d values)) item ∙ sym w.in_ok-put_value.ensures ∙ sym (ap (λ v. v.items) w.values-is))
          (Progress-more rows S ids k values d c.len.ensures.book (AreWhole-reached rows c.args.id c.args.stamps.now c.requires.in_time c.requires.reached) c.loop-reader-test.true
          (lent ∙ ap (option_map definition_lent) w.in-Some.is) c.loop-reader.invariant)
      | in_default w ↦
          subst (Progress rows S ids (k + 1)) (sym (ap (λ v. v.items) w.values-is))
          (Progress-past rows S ids k values (lent ∙ ap (option_map definition_lent) w.in_default.is) c.loop-reader.invariant)
    ]

pub returns : goal.returns
returns c =
    let rows = c.args.book.now in
    let S = clock_of c.args.stamps.now in
    let ids = c.as_slice-reader-items.result.now in
    let values = c.loop-reader.values.items in
    let there = definition-reached rows c.args.id c.args.stamps.now c.requires.in_time c.requires.reached c.args.id Reach.itself in
    let done : CentralAt (theory rows) S c.args.id (value_at values c.args.id) =
    central-done rows S ids c.loop-reader.reader-index c.args.id values (omega (arith, c.loop-reader-test.false)) c.requires.declared there c.loop-reader.invariant in
    let read : c.index.result.now ≡ value_at values c.args.id =
    c.index.ensures ∙ ap (λ n. get_or values n c.index.result.now) c.place.ensures ∙
    get_or_default values c.args.id c.index.result.now nothing (omega (arith, c.requires.declared, c.loop-reader.invariant.count)) in
    IfOk-weaker c.copy.result _ _ (λ value same. subst (CentralAt (theory rows) S c.args.id) (sym (same ∙ read)) done) c.copy.ensures
