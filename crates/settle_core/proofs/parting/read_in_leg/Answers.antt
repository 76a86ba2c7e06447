use Rattle.std.proofs.Common.{◌+◌, ◌∙◌, ℕ, Option, Global, Vec, ap, sym, subst, arith, length}
use Rattle.service_machine.specs.Steps.{targets}
use Rattle.svc_graph.specs.declared.lent.DefinitionRef.{DefinitionRef}
use Rattle.svc_graph.specs.Lent.{definition_lent}
use Rattle.std.specs.Option.{option_map}
use Rattle.settle_core.specs.Inside.Parting.{AreRead}
use Rattle.settle_core.proofs.PartLemmas.{read_none, read_some, read_less}
use Rattle.settle_core.proofs.parting.read_in_leg.Goals as goal
use Rattle.settle_core.proofs.parting.read_in_leg.Goals.{in-Some+in_ok-append_named, in_default}

pub loop-clock-preserved : goal.loop-clock-preserved
loop-clock-preserved c = λ count.
    let edges = targets c.args.node.now.state.edges in
    let own = c.args.node.now.state.own in
    let was = c.loop-clock.invariant count in
    elim c.match-at.branch [
      | in-Some+in_ok-append_named w ↦ read_some count edges own c.args.history.now c.loop-clock.clock c.loop-clock.ids.items was (definition_lent w.in-Some.definition) c.match-at.ids.items
          (sym c.at.ensures ∙ ap (λ (o : Option DefinitionRef). option_map definition_lent o) w.in-Some.is) (ap (λ (v : Vec ℕ Global). v.items) w.ids-is ∙ w.in_ok-append_named.ensures)
      | in_default w ↦ subst (λ (v : Vec ℕ Global). AreRead count edges own c.args.history.now (c.loop-clock.clock + 1) v.items) (sym w.ids-is)
          (read_none count edges own c.args.history.now c.loop-clock.clock c.loop-clock.ids.items was (sym c.at.ensures ∙ ap (λ (o : Option DefinitionRef). option_map definition_lent o) w.in_default.is))
    ]

pub returns : goal.returns
returns c = λ count.
    read_less count (targets c.args.node.now.state.edges) c.args.node.now.state.own c.args.history.now c.loop-clock.clock c.loop-clock.ids.items (c.loop-clock.invariant count) (length c.args.history.now + 1)
    (omega (arith, c.loop-clock-test.false, c.len-clock-end.ensures))
