use Rattle.std.proofs.Common.{sym, subst}
use Rattle.command_words.specs.declared.command.Command.{Command}
use Rattle.qprop_cli.specs.Ending.{Ends}
use Rattle.qprop_cli.proofs.commands.perform.Goals as goal

pub returns-in-Make-clause-ends : goal.returns-in-Make-clause-ends
returns-in-Make-clause-ends g c =
    let P : Command → Type 0 = λ made. Ends made (g.S.Source.left c.args.source.now) (g.S.Source.left c.args.source.now) (g.S.Source.faults c.args.source.now) (g.S.Source.faults c.args.source.now)
    (g.K.Sink.held c.args.sink.now) (g.K.Sink.held c.make.new.sink) (g.K.Sink.faults c.args.sink.now) (g.K.Sink.faults c.make.new.sink) c.make.result in
    subst P (sym c.in-Make.is) (c.make.ensures.ends (g.S.Source.left c.args.source.now) (g.S.Source.faults c.args.source.now))

pub returns-in-Load-clause-ends : goal.returns-in-Load-clause-ends
returns-in-Load-clause-ends g c =
    let P : Command → Type 0 = λ loaded. Ends loaded (g.S.Source.left c.args.source.now) (g.S.Source.left c.args.source.now) (g.S.Source.faults c.args.source.now) (g.S.Source.faults c.args.source.now)
    (g.K.Sink.held c.args.sink.now) (g.K.Sink.held c.load.new.sink) (g.K.Sink.faults c.args.sink.now) (g.K.Sink.faults c.load.new.sink) c.load.result in
    subst P (sym c.in-Load.is) (c.load.ensures.ends (g.S.Source.left c.args.source.now) (g.S.Source.faults c.args.source.now))
