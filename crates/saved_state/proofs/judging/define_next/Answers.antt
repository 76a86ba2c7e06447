use Rattle.std.proofs.Common.{◌∙◌, ap, sym, subst, get_or, List}
use Rattle.svc_graph.specs.Accepting.{IsChangeOf}
use Rattle.svc_graph.specs.declared.definition.Change.TheVariants.{Birth}
use Rattle.svc_graph.specs.declared.definition.Definition.{Definition}
use Rattle.svc_graph.specs.History.{Row, rows_after_change}
use Rattle.svc_graph.specs.Refusals.{refusal_of}
use Rattle.saved_state.specs.declared.saved.ServiceRow.{ServiceRow}
use Rattle.saved_state.proofs.JudgingLemmas.{can_be_born, defined_more, not_refused, error_is}
use Rattle.saved_state.proofs.judging.define_next.Goals as goal

pub accept-requires : goal.accept-requires
accept-requires c =
    let service = c.index-services-from.result in
    let same = c.index-services-from.is ∙ ap (λ n. get_or c.args.services.now n service) (c.from.ensures ∙ c.id.view_is) in
    let first = c.in_ok-first.ensures ∙ ap (λ (s : ServiceRow). s.definition) (sym c.index-services-from.is) in
    subst (λ (d : Definition). IsChangeOf c.args.book.now c.args.id (Birth d)) (sym first)
    (subst (λ (rows : List Row). IsChangeOf rows c.args.id (Birth service.definition)) (sym c.requires.book) (can_be_born c.args.services.now c.args.id service c.requires.formed c.requires.id same))

pub returns-in-Ok-clause-ok : goal.returns-in-Ok-clause-ok
returns-in-Ok-clause-ok c =
    let service = c.index-services-from.result in
    let same = c.index-services-from.is ∙ ap (λ n. get_or c.args.services.now n service) (c.from.ensures ∙ c.id.view_is) in
    let first = c.in_ok-first.ensures ∙ ap (λ (s : ServiceRow). s.definition) (sym c.index-services-from.is) in
    c.in-Ok.ensures.ok ∙ (λ i. rows_after_change (c.requires.book i) c.args.id (Birth (first i))) ∙ defined_more c.args.services.now c.args.id service c.requires.id same

pub returns-in-Err-clause-bad : goal.returns-in-Err-clause-bad
returns-in-Err-clause-bad c e book =
    let service = c.index-services-from.result in
    let same = c.index-services-from.is ∙ ap (λ n. get_or c.args.services.now n service) (c.from.ensures ∙ c.id.view_is) in
    let first = c.in_ok-first.ensures ∙ ap (λ (s : ServiceRow). s.definition) (sym c.index-services-from.is) in
    not_refused c.args.services.now c.args.id service c.in-Err.error c.requires.id same book
    ((λ i. refusal_of (sym c.requires.book i) c.args.id (Birth (sym first i))) ∙ c.in-Err.ensures.refused (c.refused.ensures (error_is _ _ e)))
