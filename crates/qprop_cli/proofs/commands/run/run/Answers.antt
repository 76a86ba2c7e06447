use Rattle.command_words.specs.declared.command.Command.TheVariants as command
use Rattle.qprop_cli.proofs.EndingLemmas.{unread_ends}
use Rattle.qprop_cli.proofs.commands.run.run.Goals as goal

pub returns-in-Err : goal.returns-in-Err
returns-in-Err g c = record {
  ends = unread_ends (command.Run c.args.flags) (g.S.Source.left c.args.source.now) (g.S.Source.left c.read_plan.new.source) (g.S.Source.faults c.args.source.now) (g.S.Source.faults c.read_plan.new.source)
      (g.K.Sink.held c.args.sink.now) (g.K.Sink.faults c.args.sink.now) c.read_plan.result c.in-Err.error c.in-Err.is
      c.read_plan.ensures.refused c.read_plan.ensures.read_fault c.read_plan.ensures.no_write_fault;
}
