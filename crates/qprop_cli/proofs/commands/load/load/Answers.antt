use Rattle.std.proofs.Common.{List, ℕ, Some, refl, subst}
use Rattle.std.specs.Io.KnownBytes.{Appends}
use Rattle.command_words.specs.declared.command.Command.TheVariants as command
use Rattle.qprop_cli.specs.Streams.{AddsBeginning}
use Rattle.qprop_cli.proofs.DueLemmas.{loaded_due, loaded_output}
use Rattle.qprop_cli.proofs.EndingLemmas.{done_ends, fault_ends}
use Rattle.qprop_cli.proofs.commands.load.load.Goals as goal

pub returns-in-Ok : goal.returns-in-Ok
returns-in-Ok g c = record {
  ends = λ left faults.
      let network = c.in_ok-network.network in
      let text = c.in_ok-network.text.items in
      let gained = subst (λ (t : List ℕ). Appends (g.K.Sink.held c.args.sink.now) (g.K.Sink.held c.write_all.new.sink) t) c.deref.ensures.value c.in-Ok.ensures.written in
      done_ends (command.Load c.args.size) left left faults faults (g.K.Sink.held c.args.sink.now) (g.K.Sink.held c.write_all.new.sink) (g.K.Sink.faults c.args.sink.now) (g.K.Sink.faults c.write_all.new.sink)
      (Some network) c.write_all.ensures.later
      (loaded_output c.args.size (g.K.Sink.held c.args.sink.now) (g.K.Sink.held c.write_all.new.sink) network text c.in_ok-network.ensures gained, refl);
}

pub returns-in-Err : goal.returns-in-Err
returns-in-Err g c = record {
  ends = λ left faults.
      let network = c.in_ok-network.network in
      let text = c.in_ok-network.text.items in
      let begun = subst (λ (t : List ℕ). AddsBeginning (g.K.Sink.held c.args.sink.now) (g.K.Sink.held c.write_all.new.sink) t) c.deref.ensures.value c.in-Err.ensures.begun in
      fault_ends (command.Load c.args.size) left left faults faults (g.K.Sink.held c.args.sink.now) (g.K.Sink.held c.write_all.new.sink) (g.K.Sink.faults c.args.sink.now) (g.K.Sink.faults c.write_all.new.sink)
      c.write_all.ensures.later c.in-Err.ensures.fault
      (loaded_due left left (g.K.Sink.held c.args.sink.now) (g.K.Sink.held c.write_all.new.sink) c.args.size network text c.in_ok-network.ensures begun);
}
