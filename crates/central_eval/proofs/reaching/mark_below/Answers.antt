use Rattle.std.proofs.Common.{◌∙◌, ◌||◌, ◌<◌, Some, false, get_or, length, option_map, sym, ap, arith}
use Rattle.std.proofs.Math.Bool.{or_assoc}
use Rattle.propagation.specs.History.{dependencies_of}
use Rattle.propagation.specs.Lists.{is_among}
use Rattle.svc_graph.proofs.Lists.{is_among_append}
use Rattle.svc_graph.specs.declared.lent.DefinitionRef.TheVariants.{Derived}
use Rattle.svc_graph.specs.History.{theory}
use Rattle.svc_graph.specs.Lent.{definition_lent}
use Rattle.central_eval.proofs.Evaluating.{All-left, All-right, definition-lent, dependencies-declared}
use Rattle.central_eval.proofs.reaching.mark_below.Goals as goal

pub mark_all-requires : goal.mark_all-requires
mark_all-requires c k d within =
    let formula = c.in-Some-Derived.formula in
    let rows = c.args.book.now in
    let defined = definition-lent rows c.args.reader c.args.clock c.history.result.now c.at.result c.history.ensures.history c.at.ensures ∙ ap (option_map definition_lent) (c.in-Some-Derived.is ∙ ap Some c.in-Some-Derived.field-0-is) in
    let all = dependencies-declared rows c.args.reader c.args.clock (definition_lent (Derived formula)) c.requires.book defined in
    omega (arith, c.requires.book.few, c.requires.room, All-left (λ p. p < length rows) formula.fixed.now formula.members.now all k d within)

pub mark_all-requires-in-Some-Derived : goal.mark_all-requires-in-Some-Derived
mark_all-requires-in-Some-Derived c k d within =
    let formula = c.in-Some-Derived.formula in
    let rows = c.args.book.now in
    let defined = definition-lent rows c.args.reader c.args.clock c.history.result.now c.at.result c.history.ensures.history c.at.ensures ∙ ap (option_map definition_lent) (c.in-Some-Derived.is ∙ ap Some c.in-Some-Derived.field-0-is) in
    let all = dependencies-declared rows c.args.reader c.args.clock (definition_lent (Derived formula)) c.requires.book defined in
    omega (arith, c.requires.book.few, c.requires.room, c.mark_all.auto.marks, All-right (λ p. p < length rows) formula.fixed.now formula.members.now all k d within)

pub returns-in-Some-Derived : goal.returns-in-Some-Derived
returns-in-Some-Derived c q =
    let fixed = c.in-Some-Derived.formula.fixed.now in
    let members = c.in-Some-Derived.formula.members.now in
    let rows = c.args.book.now in
    let defined = definition-lent rows c.args.reader c.args.clock c.history.result.now c.at.result c.history.ensures.history c.at.ensures ∙ ap (option_map definition_lent) (c.in-Some-Derived.is ∙ ap Some c.in-Some-Derived.field-0-is) in
    c.mark_all-in-Some-Derived.ensures q ∙ ap (λ b. b || is_among members q) (c.mark_all.ensures q) ∙
    or_assoc (get_or c.args.marks.now q false) (is_among fixed q) (is_among members q) ∙
    ap (λ b. get_or c.args.marks.now q false || b) (sym (is_among_append fixed members q) ∙ ap (λ o. is_among (dependencies_of (theory rows) o) q) (sym defined))
