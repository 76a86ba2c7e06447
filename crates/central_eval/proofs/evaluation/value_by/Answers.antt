use Rattle.std.proofs.Common.{◌≡◌, ◌∙◌, ◌<◌, ◌++◌, All, length, map, take, drop, ap, sym, subst}
use Rattle.std.proofs.lemmas.List.{map-append}
use Rattle.std.proofs.lemmas.Result.{IfOk-weaker}
use Rattle.svc_expr.specs.Meaning.{meaning}
use Rattle.svc_expr.specs.Tree.{tree_of}
use Rattle.central_eval.proofs.Evaluating.{All-right}
use Rattle.central_eval.specs.Values.{value_at, value_by}
use Rattle.svc_graph.specs.History.{dependencies}
use Rattle.svc_graph.specs.Lent.{definition_lent}
use Rattle.central_eval.proofs.evaluation.value_by.Goals as goal

pub gather-requires-in-Derived : goal.gather-requires-in-Derived
gather-requires-in-Derived c =
    let count = length c.args.values.now in
    All-right (λ p. p < count) c.in-Derived.formula.fixed.now c.in-Derived.formula.members.now
    (subst (λ lent. All (λ p. p < count) (dependencies (definition_lent lent))) c.in-Derived.is c.requires.below)

pub returns-in_ok-gather-in-Derived-2 : goal.returns-in_ok-gather-in-Derived-2
returns-in_ok-gather-in-Derived-2 c =
    let values = c.args.values.now in
    let lent = c.in-Derived.formula in
    let at = value_at values in
    let fixed = lent.fixed.now in
    let members = lent.members.now in
    let first : c.gather.new.given.items ≡ map at fixed = c.in_ok-gather-in-Derived.ensures ∙ ap (λ vs. vs ++ map at fixed) c.clear.ensures.items in
    let all : c.as_slice.result.now ≡ map at (fixed ++ members) =
    c.as_slice.ensures.value ∙ c.in_ok-gather-in-Derived-2.ensures ∙ ap (λ vs. vs ++ map at members) first ∙ sym (map-append at fixed members) in
    let front = c.split_at.ensures.front ∙ ap (take (length fixed)) all in
    let back = c.split_at.ensures.back ∙ ap (drop (length fixed)) all in
    IfOk-weaker c.eval.result _ _
    (λ value e. e ∙ (λ i. meaning (tree_of lent.expr.now) (front i) (back i)) ∙ (λ i. value_by (definition_lent (sym c.in-Derived.is i)) values)) c.eval.ensures.value
