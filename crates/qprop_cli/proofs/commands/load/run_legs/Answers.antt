use Rattle.std.proofs.Common.{List, subst, arith}
use Rattle.std.proofs.lemmas.List.{take_all}
use Rattle.svc_plan.specs.declared.plan.Leg.{Leg}
use Rattle.qprop_cli.specs.Inside.Running.{HasRunAll}
use Rattle.qprop_cli.proofs.RunLemmas.{ran_none, ran_more, next_leg}
use Rattle.qprop_cli.proofs.commands.load.run_legs.Goals as goal

pub loop-leg-init : goal.loop-leg-init
loop-leg-init c = ran_none c.new-network.result c.new-network.ensures.network

pub run_leg-requires-clause-leg : goal.run_leg-requires-clause-leg
run_leg-requires-clause-leg c =
    next_leg c.args.legs.now c.loop-leg.leg-index c.leg-item.result c.loop-leg.network.rows c.loop-leg-test.true c.leg-item.is c.loop-leg.invariant.histories c.requires

pub loop-leg-preserved : goal.loop-leg-preserved
loop-leg-preserved c =
    let ok = c.in_ok-run_leg.ensures in
    ran_more c.args.legs.now c.loop-leg.leg-index c.leg-item.result c.loop-leg.network.rows c.loop-leg-test.true c.leg-item.is c.loop-leg.invariant.histories
    c.run_leg.new.network ok.rows ok.quiet ok.ran.run

pub returns : goal.returns
returns c =
    let P : List Leg → Type 0 = λ legs. HasRunAll legs c.loop-leg.network in
    subst P (take_all c.loop-leg.leg-index c.args.legs.now (omega (arith, c.loop-leg-test.false))) c.loop-leg.invariant
