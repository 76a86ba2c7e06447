use Rattle.std.proofs.Common.{List, length, sym, subst, arith}
use Rattle.std.proofs.lemmas.List.{take_all}
use Rattle.svc_graph.specs.History.{Row}
use Rattle.svc_plan.specs.declared.plan.StepLine.{StepLine}
use Rattle.settle_core.specs.Events.{AreDeclared}
use Rattle.qprop_cli.specs.Inside.StepLines.{ordered, HasStepped}
use Rattle.qprop_cli.proofs.SteppedLemmas.{stepped_none, stepped_next}
use Rattle.qprop_cli.proofs.commands.step.events.make_steps.Goals as goal

pub loop-step-init : goal.loop-step-init
loop-step-init c = stepped_none c.args.is_wanted c.args.network.now c.args.out.now.items c.requires.begun

pub make_step-requires : goal.make_step-requires
make_step-requires c =
    let P : List Row → Type 0 = λ rows. AreDeclared (length rows) (ordered c.step-item.result.event) in
    let Q : StepLine → Type 0 = λ step. AreDeclared (length c.args.network.now.rows) (ordered step.event) in
    subst P (sym c.loop-step.invariant.rows) (subst Q (sym c.step-item.is) (c.requires.named c.loop-step.step-index c.step-item.result c.loop-step-test.true))

pub loop-step-preserved : goal.loop-step-preserved
loop-step-preserved c =
    stepped_next c.args.is_wanted c.args.steps.now c.loop-step.step-index c.step-item.result c.args.network.now c.loop-step.network c.make_step.new.network
    c.args.out.now.items c.loop-step.out.items c.make_step.new.out.items c.loop-step-test.true c.step-item.is
    c.loop-step.invariant c.make_step.ensures.rows c.in_ok-make_step.ensures.makes

pub returns : goal.returns
returns c =
    let P : List StepLine → Type 0 = λ steps. HasStepped c.args.is_wanted steps c.args.network.now c.loop-step.network c.args.out.now.items c.loop-step.out.items in
    subst P (take_all c.loop-step.step-index c.args.steps.now (omega (arith, c.loop-step-test.false))) c.loop-step.invariant
