use Rattle.std.proofs.Common.{◌∙◌, ◌∷◌, ◌++◌, [], ap, sym, subst, get_or, true≢false}
use Rattle.std.specs.Prelude.{is_some}
use Rattle.svc_graph.specs.History.{declared_row, find_service}
use Rattle.svc_token.specs.Word.{IsName}
use Rattle.saved_state.proofs.JudgingLemmas.{name_is, declared_more, not_taken}
use Rattle.saved_state.proofs.judging.declare_next.Goals as goal

pub new-name-requires : goal.new-name-requires
new-name-requires c =
    let service = c.index-services-from.result in
    let same = c.index-services-from.is ∙ ap (λ n. get_or c.args.services.now n service) (c.from.ensures ∙ c.id.view_is) in
    subst IsName (sym c.as_slice.ensures) (name_is c.args.services.now c.args.id service c.requires.names c.requires.id same)

pub returns-then-is_some-clause-bad : goal.returns-then-is_some-clause-bad
returns-then-is_some-clause-bad c e book =
    let service = c.index-services-from.result in
    let same = c.index-services-from.is ∙ ap (λ n. get_or c.args.services.now n service) (c.from.ensures ∙ c.id.view_is) in
    let name = c.as_str.ensures.text ∙ c.new-name.ensures ∙ c.as_slice.ensures in
    let none = c.find.ensures ∙ (λ i. find_service (c.requires.book i) (name i)) ∙ not_taken c.args.services.now c.args.id service c.requires.id same book in
    true≢false (sym c.if-is_some.true ∙ c.is_some.ensures ∙ ap is_some none)

pub returns-clause-ok : goal.returns-clause-ok
returns-clause-ok c =
    let service = c.index-services-from.result in
    let same = c.index-services-from.is ∙ ap (λ n. get_or c.args.services.now n service) (c.from.ensures ∙ c.id.view_is) in
    let name = c.as_str-2.ensures.text ∙ c.new-name.ensures ∙ c.as_slice.ensures in
    c.in_ok-add_service.ensures.ok ∙ (λ i. c.requires.book i ++ declared_row (name i) service.rank service.ty ∷ []) ∙ declared_more c.args.services.now c.args.id service c.requires.id same
