use Rattle.std.proofs.Common.{◌≡◌, ◌∙◌, ◌++◌, [], ap, arith, true, List, length, ◌<◌}
use Rattle.std.proofs.lemmas.Grind.{common_steps}
use Rattle.svc_graph.proofs.Changed.{length-changed, row_at-changed}
use Rattle.svc_graph.specs.declared.definition.Definition.{Definition}
use Rattle.svc_graph.specs.History.{Row, history_of, is_birth}
use Rattle.node_tests.proofs.ServiceLemmas.{brought-next}
use Rattle.node_tests.proofs.tests.accepting.accept.Goals as goal

pub returns-clause-len : goal.returns-clause-len
returns-clause-len c = ap (λ (rows : List Row). length rows) c.in_ok-accept.ensures.ok ∙ length-changed c.args.book.now c.args.id c.args.change

pub returns-clause-history : goal.returns-clause-history
returns-clause-history c =
    let within : c.args.id < length c.args.book.now = omega (arith, c.if-from-len.false, c.from.ensures, c.len.ensures.len) in
    let first : history_of c.args.book.now c.args.id ≡ [] → is_birth c.args.change ≡ true = λ none. (let len = ap (λ (ds : List Definition). length ds) none in grind (arith, common_steps, c.if-is_birth-clock.false, c.is_birth.ensures, c.clock-2.ensures, c.clock-3.view_is, len)) in
    ap (λ (rows : List Row). history_of rows c.args.id) c.in_ok-accept.ensures.ok
    ∙ ap (λ (row : Row). row.history) (row_at-changed c.args.book.now c.args.id c.args.change within)
    ∙ ap (λ (ds : List Definition). history_of c.args.book.now c.args.id ++ ds) (brought-next (history_of c.args.book.now c.args.id) c.args.change first)
