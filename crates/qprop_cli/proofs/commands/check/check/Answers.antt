use Rattle.std.proofs.Common.{ap, ◌∙◌, subst, refl, None}
use Rattle.std.specs.Io.KnownBytes.{Appends}
use Rattle.command_words.specs.declared.command.Command.TheVariants as command
use Rattle.qprop_cli.specs.Commands.Check.{accepted_line}
use Rattle.qprop_cli.proofs.DueLemmas.{check_output}
use Rattle.qprop_cli.proofs.EndingLemmas.{done_ends, unread_ends}
use Rattle.qprop_cli.proofs.commands.check.check.Goals as goal

pub returns-in-Err : goal.returns-in-Err
returns-in-Err g c = record {
  ends = unread_ends command.Check (g.S.Source.left c.args.source.now) (g.S.Source.left c.read_plan.new.source) (g.S.Source.faults c.args.source.now) (g.S.Source.faults c.read_plan.new.source)
      (g.K.Sink.held c.args.sink.now) (g.K.Sink.faults c.args.sink.now) c.read_plan.result c.in-Err.error c.in-Err.is
      c.read_plan.ensures.refused c.read_plan.ensures.read_fault c.read_plan.ensures.no_write_fault;
}

pub returns : goal.returns
returns g c =
    let line = c.deref.ensures.value ∙ c.in_ok-text.ensures ∙ ap accepted_line c.as_slice.ensures in
    let added = subst (Appends (g.K.Sink.held c.args.sink.now) (g.K.Sink.held c.write_all.new.sink)) line c.in_ok-write_all.ensures.written in
    record {
      ends = done_ends command.Check (g.S.Source.left c.args.source.now) (g.S.Source.left c.read_plan.new.source) (g.S.Source.faults c.args.source.now) (g.S.Source.faults c.read_plan.new.source)
          (g.K.Sink.held c.args.sink.now) (g.K.Sink.held c.write_all.new.sink) (g.K.Sink.faults c.args.sink.now) (g.K.Sink.faults c.write_all.new.sink) None c.write_all.ensures.later (
            check_output (g.S.Source.left c.args.source.now) (g.S.Source.left c.read_plan.new.source) (g.K.Sink.held c.args.sink.now) (g.K.Sink.held c.write_all.new.sink)
                c.in-Ok.plan.legs c.in-Ok.ensures.plan added,
            refl,
          );
    }
