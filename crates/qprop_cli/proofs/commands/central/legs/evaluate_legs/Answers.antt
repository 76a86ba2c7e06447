use Rattle.std.proofs.Common.{arith, subst, sym, ◌∙◌}
use Rattle.svc_plan.specs.Rows.{EachBorn}
use Rattle.qprop_cli.proofs.RunLemmas.{settled_none, next_leg, settled_more, settling_stopped, rows_next, on_error}
use Rattle.qprop_cli.proofs.commands.central.legs.evaluate_legs.Goals as goal

pub loop-i-init : goal.loop-i-init
loop-i-init g c = (omega arith, c.new-book.ensures, subst EachBorn (sym c.new-book.ensures) tt, settled_none (g.K.Sink.held c.args.sink.now))

pub write_leg-requires-clause-leg : goal.write_leg-requires-clause-leg
write_leg-requires-clause-leg g c =
    next_leg c.args.legs.now c.loop-i.i c.index-legs-i.result c.loop-i.book (omega arith) c.index-legs-i.is c.loop-i.invariant.1 c.requires.legs

pub returns-in_err-write_leg-clause-begun : goal.returns-in_err-write_leg-clause-begun
returns-in_err-write_leg-clause-begun g c =
    on_error c.from_residual.result _ (settling_stopped c.args.legs.now c.loop-i.i c.index-legs-i.result c.loop-i.book (omega arith) c.index-legs-i.is c.loop-i.invariant.1
    (g.K.Sink.held c.args.sink.now) (g.K.Sink.held c.loop-i.sink) (g.K.Sink.held c.write_leg.new.sink) c.loop-i.invariant.3 c.in_err-write_leg.ensures.begun)

pub loop-i-preserved : goal.loop-i-preserved
loop-i-preserved g c =
    let ok = c.in_ok-write_leg.ensures in (
      omega arith,
      ok.rows ∙ rows_next c.args.legs.now c.loop-i.i c.index-legs-i.result c.loop-i.book (omega arith) c.index-legs-i.is c.loop-i.invariant.1,
      ok.born,
      settled_more c.args.legs.now c.loop-i.i c.index-legs-i.result c.loop-i.book (omega arith) c.index-legs-i.is c.loop-i.invariant.1
          (g.K.Sink.held c.args.sink.now) (g.K.Sink.held c.loop-i.sink) (g.K.Sink.held c.write_leg.new.sink) c.loop-i.invariant.3 ok.added,
    )
