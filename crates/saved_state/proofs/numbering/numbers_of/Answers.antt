use Rattle.std.proofs.Common.{◌∙◌, ◌<◌, ◌∷◌, [], ◌++◌, All, length, arith, ap, subst}
use Rattle.std.proofs.lemmas.List.{length-map, take_all}
use Rattle.svc_expr.specs.Grammar.{name_index}
use Rattle.saved_state.specs.declared.named.NamedRow.{NamedRow}
use Rattle.saved_state.specs.Named.{names_of}
use Rattle.saved_state.proofs.ListLemmas.{all_next, mapped_next}
use Rattle.saved_state.proofs.numbering.numbers_of.Goals as goal

pub returns-then-place-rows-clause-bad : goal.returns-then-place-rows-clause-bad
returns-then-place-rows-clause-bad c e known =
    let one = known c.loop-name.name-index c.name-item.result c.loop-name-test.true in
    let placed = c.place_of-place.ensures ∙ ap (name_index (names_of c.args.rows.now)) (c.as_slice.ensures ∙ c.name-item.is) in
    omega (arith, one, placed, c.if-place-rows.true, length-map c.args.rows.now (λ (row : NamedRow). row.name))

pub loop-name-preserved : goal.loop-name-preserved
loop-name-preserved c =
    let placed = c.place_of-place.ensures ∙ ap (name_index (names_of c.args.rows.now)) c.as_slice.ensures in (
      c.in_ok-push.ensures.ok ∙ (λ i. c.loop-name.invariant.0 i ++ c.place_of-place.result ∷ [])
          ∙ mapped_next (name_index (names_of c.args.rows.now)) c.args.names.now c.loop-name.name-index c.name-item.result c.place_of-place.result c.loop-name-test.true c.name-item.is placed,
      all_next (λ name. name_index (names_of c.args.rows.now) name < length (names_of c.args.rows.now)) c.args.names.now c.loop-name.name-index c.name-item.result c.loop-name-test.true c.name-item.is
          c.loop-name.invariant.1 (omega (arith, placed, c.if-place-rows.false, length-map c.args.rows.now (λ (row : NamedRow). row.name))),
    )

pub returns-clause-known : goal.returns-clause-known
returns-clause-known c =
    subst (All (λ name. name_index (names_of c.args.rows.now) name < length (names_of c.args.rows.now))) (take_all c.loop-name.name-index c.args.names.now c.loop-name-test.false) c.loop-name.invariant.1
