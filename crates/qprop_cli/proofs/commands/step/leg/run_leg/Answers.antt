use Rattle.std.proofs.Common.{List, length, subst, sym}
use Rattle.svc_graph.specs.History.{Row}
use Rattle.svc_plan.specs.declared.plan.StepLine.{StepLine}
use Rattle.qprop_cli.specs.Inside.StepLines.{AreNamed, HasStepped}
use Rattle.qprop_cli.proofs.SteppedLemmas.{leg_run, steps_named}
use Rattle.qprop_cli.proofs.commands.step.leg.run_leg.Goals as goal

pub make_steps-requires-clause-named : goal.make_steps-requires-clause-named
make_steps-requires-clause-named c =
    let P : List Row → Type 0 = λ rows. AreNamed (length rows) c.args.leg.now.steps in
    let Q : List StepLine → Type 0 = λ steps. AreNamed (length c.open_leg.new.self.rows) steps in
    subst Q (sym c.as_slice.ensures) (subst P (sym c.in_ok-open_leg.ensures.ok.rows) (steps_named c.args.network.now.rows c.args.leg.now c.requires.leg))

pub returns-clause-ran : goal.returns-clause-ran
returns-clause-ran c =
    let P : List StepLine → Type 0 = λ steps. HasStepped c.args.is_noted steps c.open_leg.new.self c.make_steps.new.network c.args.out.now.items c.make_steps.new.out.items in
    leg_run c.args.is_noted c.args.network.now c.open_leg.new.self c.make_steps.new.network c.drain.new.self c.args.leg.now c.args.out.now.items c.make_steps.new.out.items c.requires.leg c.in_ok-open_leg.ensures.ok
    (subst P c.as_slice.ensures c.in_ok-make_steps.ensures) c.kept.ensures c.drain.ensures.goes c.kept-2.ensures c.in_ok-drain.ensures.quiet
