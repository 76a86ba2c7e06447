use Rattle.std.proofs.Common.{arith, List, subst, sym}
use Rattle.std.proofs.lemmas.List.{take_all}
use Rattle.svc_plan.specs.declared.plan.Leg.{Leg}
use Rattle.qprop_cli.specs.Inside.Blocks.{AddsTraced}
use Rattle.qprop_cli.specs.Inside.StepLines.{FitsMode}
use Rattle.qprop_cli.proofs.RunLemmas.{traced_none, next_leg, traced_leg, tracing_stopped, on_error}
use Rattle.qprop_cli.proofs.commands.settling.legs.settle_legs.Goals as goal

pub loop-i-init : goal.loop-i-init
loop-i-init g c = (omega arith, traced_none c.args.flags (g.K.Sink.held c.args.sink.now) c.new-network.result c.new-network.ensures.network)

pub write_leg-requires-clause-leg : goal.write_leg-requires-clause-leg
write_leg-requires-clause-leg g c =
    next_leg c.args.legs.now c.loop-i.i c.index-legs-i.result c.loop-i.network.rows (omega arith) c.index-legs-i.is c.loop-i.invariant.1.done.done.histories c.requires.legs

pub write_leg-requires-clause-mode : goal.write_leg-requires-clause-mode
write_leg-requires-clause-mode g c =
    subst (λ (leg : Leg). FitsMode g.L.LegRunner.mode leg) (sym c.index-legs-i.is) (c.requires.mode c.loop-i.i c.index-legs-i.result (omega arith))

pub returns-in_err-write_leg-clause-begun : goal.returns-in_err-write_leg-clause-begun
returns-in_err-write_leg-clause-begun g c =
    on_error c.from_residual.result _ (tracing_stopped c.args.legs.now c.loop-i.i c.index-legs-i.result c.loop-i.network.rows (omega arith) c.index-legs-i.is c.loop-i.invariant.1.done.done.histories
    c.args.flags c.write_leg.new.network (g.K.Sink.held c.args.sink.now) (g.K.Sink.held c.loop-i.sink) (g.K.Sink.held c.write_leg.new.sink) c.loop-i.invariant.1.adds c.in_err-write_leg.ensures.begun)

pub loop-i-preserved : goal.loop-i-preserved
loop-i-preserved g c =
    let ok = c.in_ok-write_leg.ensures in (
      omega arith,
      traced_leg c.args.legs.now c.loop-i.i c.index-legs-i.result c.loop-i.network.rows (omega arith) c.index-legs-i.is c.loop-i.invariant.1.done.done.histories
          c.args.flags c.write_leg.new.network (g.K.Sink.held c.args.sink.now) (g.K.Sink.held c.loop-i.sink) (g.K.Sink.held c.write_leg.new.sink) c.loop-i.invariant.1.adds
          ok.added ok.rows ok.quiet ok.holds,
    )

pub returns-clause-settled : goal.returns-clause-settled
returns-clause-settled g c =
    let P : List Leg → Type 0 = λ legs. AddsTraced c.args.flags (g.K.Sink.held c.args.sink.now) (g.K.Sink.held c.loop-i.sink) legs c.loop-i.network in
    subst P (take_all c.loop-i.i c.args.legs.now (omega (arith, c.loop-i-test.false))) c.loop-i.invariant.1
