use Rattle.std.proofs.Common.{ap, sym, subst, ◌≡◌, ◌∙◌, inl, Some, Err}
use Rattle.document_reading.specs.declared.refusal.Refusal.{Refusal}
use Rattle.command_words.specs.declared.command.Command.TheVariants as command
use Rattle.qprop_cli.specs.declared.outcome.Status.TheVariants.{Refused}
use Rattle.qprop_cli.specs.Outcome.{RefusedOutput}
use Rattle.qprop_cli.proofs.EndingLemmas.{refused_output, refusal_begun, keeps_behind, rose_later, performed, network_there, not_refused, asked_for}
use Rattle.qprop_cli.proofs.call.answer.Goals as goal

pub perform-requires : goal.perform-requires
perform-requires g c = record {
  can_run = c.requires.can_run;
  made = λ size is. c.requires.made_size size (c.in-Some.is ∙ ap Some is);
  loaded = λ size is. c.requires.loaded_size size (c.in-Some.is ∙ ap Some is);
}

pub returns-in-Ok-clause-ran : goal.returns-in-Ok-clause-ran
returns-in-Ok-clause-ran g c = λ flags own done.
    (performed c.args.asked c.in-Some.command (command.Run flags) (g.S.Source.left c.args.source.now) (g.S.Source.left c.perform.new.source) (g.K.Sink.held c.args.sink.now) (g.K.Sink.held c.perform.new.sink)
    c.in-Ok.network (sym c.in-Some.is) own (rw c.in-Ok.is at c.perform.ensures.ends.done)).0

pub returns-in-Ok-clause-settled : goal.returns-in-Ok-clause-settled
returns-in-Ok-clause-settled g c = λ flags own done.
    (performed c.args.asked c.in-Some.command (command.Step flags) (g.S.Source.left c.args.source.now) (g.S.Source.left c.perform.new.source) (g.K.Sink.held c.args.sink.now) (g.K.Sink.held c.perform.new.sink)
    c.in-Ok.network (sym c.in-Some.is) own (rw c.in-Ok.is at c.perform.ensures.ends.done)).0

pub returns-in-Ok-clause-checked : goal.returns-in-Ok-clause-checked
returns-in-Ok-clause-checked g c = λ own done.
    (performed c.args.asked c.in-Some.command command.Check (g.S.Source.left c.args.source.now) (g.S.Source.left c.perform.new.source) (g.K.Sink.held c.args.sink.now) (g.K.Sink.held c.perform.new.sink)
    c.in-Ok.network (sym c.in-Some.is) own (rw c.in-Ok.is at c.perform.ensures.ends.done)).0

pub returns-in-Ok-clause-central : goal.returns-in-Ok-clause-central
returns-in-Ok-clause-central g c = λ own done.
    (performed c.args.asked c.in-Some.command command.Central (g.S.Source.left c.args.source.now) (g.S.Source.left c.perform.new.source) (g.K.Sink.held c.args.sink.now) (g.K.Sink.held c.perform.new.sink)
    c.in-Ok.network (sym c.in-Some.is) own (rw c.in-Ok.is at c.perform.ensures.ends.done)).0

pub returns-in-Ok-clause-frames : goal.returns-in-Ok-clause-frames
returns-in-Ok-clause-frames g c = λ own done.
    (performed c.args.asked c.in-Some.command command.Frames (g.S.Source.left c.args.source.now) (g.S.Source.left c.perform.new.source) (g.K.Sink.held c.args.sink.now) (g.K.Sink.held c.perform.new.sink)
    c.in-Ok.network (sym c.in-Some.is) own (rw c.in-Ok.is at c.perform.ensures.ends.done)).0

pub returns-in-Ok-clause-made : goal.returns-in-Ok-clause-made
returns-in-Ok-clause-made g c = λ size own done.
    (performed c.args.asked c.in-Some.command (command.Make size) (g.S.Source.left c.args.source.now) (g.S.Source.left c.perform.new.source) (g.K.Sink.held c.args.sink.now) (g.K.Sink.held c.perform.new.sink)
    c.in-Ok.network (sym c.in-Some.is) own (rw c.in-Ok.is at c.perform.ensures.ends.done)).0

pub returns-in-Ok-clause-loaded : goal.returns-in-Ok-clause-loaded
returns-in-Ok-clause-loaded g c = λ size own done.
    (performed c.args.asked c.in-Some.command (command.Load size) (g.S.Source.left c.args.source.now) (g.S.Source.left c.perform.new.source) (g.K.Sink.held c.args.sink.now) (g.K.Sink.held c.perform.new.sink)
    c.in-Ok.network (sym c.in-Some.is) own (rw c.in-Ok.is at c.perform.ensures.ends.done)).0

pub returns-in-Ok-clause-unread : goal.returns-in-Ok-clause-unread
returns-in-Ok-clause-unread g c = λ size words.
    c.perform.ensures.unread size (asked_for c.args.asked c.in-Some.command size (sym c.in-Some.is) words)

pub returns-in-Err-ReadFault-clause-unread : goal.returns-in-Err-ReadFault-clause-unread
returns-in-Err-ReadFault-clause-unread g c = λ size words.
    c.perform.ensures.unread size (asked_for c.args.asked c.in-Some.command size (sym c.in-Some.is) words)

pub returns-in-Err-WriteFault-clause-unread : goal.returns-in-Err-WriteFault-clause-unread
returns-in-Err-WriteFault-clause-unread g c = λ size words.
    c.perform.ensures.unread size (asked_for c.args.asked c.in-Some.command size (sym c.in-Some.is) words)

pub returns-in-Err-OutOfMemory-clause-unread : goal.returns-in-Err-OutOfMemory-clause-unread
returns-in-Err-OutOfMemory-clause-unread g c = λ size words.
    c.perform.ensures.unread size (asked_for c.args.asked c.in-Some.command size (sym c.in-Some.is) words)

pub returns-in-Ok-clause-network : goal.returns-in-Ok-clause-network
returns-in-Ok-clause-network g c =
    network_there c.args.asked c.in-Some.command (g.S.Source.left c.args.source.now) (g.S.Source.left c.perform.new.source) (g.K.Sink.held c.args.sink.now) (g.K.Sink.held c.perform.new.sink)
    c.in-Ok.network (sym c.in-Some.is) (rw c.in-Ok.is at c.perform.ensures.ends.done)

pub returns-in-Err-Refused-clause-refused : goal.returns-in-Err-Refused-clause-refused
returns-in-Err-Refused-clause-refused g c = λ told is.
    let refusal = c.in-Err-Refused.refusal in
    let error = c.in-Err-Refused.is ∙ ap Err c.in-Err-Refused.field-0-is in
    let one : told ≡ refusal = c.refuse.ensures.refusal told is in
    let P : Refusal → Type 0 = λ r. RefusedOutput c.args.asked (g.S.Source.left c.args.source.now) (g.S.Source.left c.perform.new.source) (g.K.Sink.held c.args.sink.now) (g.K.Sink.held c.refuse.new.sink) r in
    subst P (sym one)
    (refused_output c.args.asked c.in-Some.command (sym c.in-Some.is) (g.S.Source.left c.args.source.now) (g.S.Source.left c.perform.new.source) (g.K.Sink.held c.args.sink.now) (g.K.Sink.held c.perform.new.sink) (g.K.Sink.held c.refuse.new.sink)
    refusal (c.perform.ensures.ends.refused refusal error) (c.perform.ensures.ends.unanswered refusal error) (c.refuse.ensures.written (is ∙ ap Refused one)))

pub returns-in-Err-Refused-clause-write_fault : goal.returns-in-Err-Refused-clause-write_fault
returns-in-Err-Refused-clause-write_fault g c = λ is.
    rose_later (g.K.Sink.faults c.args.sink.now) (g.K.Sink.faults c.perform.new.sink) (g.K.Sink.faults c.refuse.new.sink) c.perform.ensures.ends.later (c.refuse.ensures.fault is)

pub returns-in-Err-Refused-clause-begun : goal.returns-in-Err-Refused-clause-begun
returns-in-Err-Refused-clause-begun g c = λ is.
    let refusal = c.in-Err-Refused.refusal in
    let error = c.in-Err-Refused.is ∙ ap Err c.in-Err-Refused.field-0-is in
    refusal_begun c.args.asked c.in-Some.command (sym c.in-Some.is) (g.S.Source.left c.args.source.now) (g.S.Source.left c.perform.new.source) (g.K.Sink.held c.args.sink.now) (g.K.Sink.held c.perform.new.sink) (g.K.Sink.held c.refuse.new.sink)
    refusal (c.perform.ensures.ends.refused refusal error) (c.perform.ensures.ends.unanswered refusal error) (c.refuse.ensures.begun is)

pub returns-in-Err-Refused-clause-memory : goal.returns-in-Err-Refused-clause-memory
returns-in-Err-Refused-clause-memory g c = λ is.
    let refusal = c.in-Err-Refused.refusal in
    let error = c.in-Err-Refused.is ∙ ap Err c.in-Err-Refused.field-0-is in
    inl (keeps_behind (g.K.Sink.held c.args.sink.now) (g.K.Sink.held c.perform.new.sink) (g.K.Sink.held c.refuse.new.sink) (c.perform.ensures.ends.unanswered refusal error) (c.refuse.ensures.nothing is))

pub returns-in-Err-Refused-clause-complete : goal.returns-in-Err-Refused-clause-complete
returns-in-Err-Refused-clause-complete g c = λ own read is left accepted no_read no_write.
    let refusal = c.in-Err-Refused.refusal in
    let error = c.in-Err-Refused.is ∙ ap Err c.in-Err-Refused.field-0-is in
    absurd (not_refused c.args.asked c.in-Some.command own read (g.S.Source.left c.args.source.now) (g.S.Source.left c.perform.new.source) refusal (sym c.in-Some.is) is left accepted (c.perform.ensures.ends.refused refusal error))
