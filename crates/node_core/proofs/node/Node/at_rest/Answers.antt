use Rattle.std.proofs.Common.{◌≡◌, subst, arith, false, []}
use Rattle.node_core.specs.View.{NodeView}
use Rattle.node_core.specs.Inside.{service_of}
use Rattle.node_core.proofs.DefinitionLemmas.{all_done, some_left}
use Rattle.node_core.proofs.RestLemmas.{Answers, not_due, not_done, not_handed, idle}
use Rattle.node_core.proofs.node.Node.at_rest.Goals as goal
use Rattle.node_core.proofs.node.Node.at_rest.Goals.{then-self-via-then-self, then-self-via-else-self+then-self-len, then-self-via-else-self+else-self-len+then-not-is_handed}

pub returns-then-self : goal.returns-then-self
returns-then-self c =
    let P = λ (s : NodeView). Answers false s in
    subst P c.self.view_is (elim c.then-self.branch [
      | then-self-via-then-self w ↦ not_due (service_of c.self.inside) w.if-self.true
      | then-self-via-else-self+then-self-len w ↦ not_done (service_of c.self.inside) (some_left c.self.inside.definition c.self.inside.changes.items c.self.inside.done (omega (arith, w.if-self-len.true, w.len.ensures)))
      | then-self-via-else-self+else-self-len+then-not-is_handed w ↦ not_handed (service_of c.self.inside) (λ (e : c.self.inside.journal.outbox ≡ []). let t = w.is_handed.ensures.1 e in let f = w.if-not-is_handed.true in absurd (cc (t, f)))
    ])

pub returns : goal.returns
returns c =
    let P = λ (s : NodeView). Answers c.all_idle.result s in
    subst P c.self.view_is (idle (service_of c.self.inside) c.all_idle.result c.if-self.false
    (all_done c.self.inside.definition c.self.inside.changes.items c.self.inside.done (omega (arith, c.if-self-len.false, c.len.ensures)))
    (c.is_handed.ensures.0 c.if-not-is_handed.false) (rw (← c.as_slice.ensures.value) c.all_idle.ensures.0) (rw (← c.as_slice.ensures.value) c.all_idle.ensures.1))
