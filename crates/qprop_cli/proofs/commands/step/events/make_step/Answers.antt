use Rattle.std.proofs.Common.{◌≡◌, ◌∙◌, ◌++◌, sym, ap, subst, List, length}
use Rattle.propagation.specs.Notes.{Note}
use Rattle.settle_core.specs.declared.event.Event.{Event}
use Rattle.settle_core.specs.Events.{AreDeclared, Happens, event_of, note_of}
use Rattle.svc_graph.specs.History.{Row}
use Rattle.trace_text.specs.Blocks.{if_wanted}
use Rattle.trace_text.specs.Named.{naming}
use Rattle.trace_text.specs.Notes.{IsNoteOf, note_of as written_note, step_line}
use Rattle.qprop_cli.proofs.NamedNotes.{note_named}
use Rattle.qprop_cli.proofs.RunLemmas.{if_answer}
use Rattle.qprop_cli.proofs.commands.step.events.make_step.Goals as goal

pub append_note-requires : goal.append_note-requires
append_note-requires c =
    let rows : c.book.result.now ≡ c.args.network.now.rows = c.book.ensures.rows ∙ c.event.ensures.rows in
    let named = note_named c.args.network.now c.event.new.self c.kept.ensures c.ordered.result (subst (λ (e : Event). AreDeclared (length c.args.network.now.rows) e) (sym c.ordered.ensures) c.requires) (note_of c.in-Ok.happened) c.in-Ok.ensures.happened in
    let P : Note → Type 0 = λ n. IsNoteOf (length c.args.network.now.rows) n in
    let Q : List Row → Type 0 = λ rs. IsNoteOf (length rs) (written_note c.note.result) in
    subst Q (sym rows) (subst P (sym c.note.ensures) named)

pub returns-in-Ok-clause-makes : goal.returns-in-Ok-clause-makes
returns-in-Ok-clause-makes c =
    let rows : c.book.result.now ≡ c.args.network.now.rows = c.book.ensures.rows ∙ c.event.ensures.rows in
    let P : Event → Type 0 = λ e. Happens (event_of e) (note_of c.in-Ok.happened) c.args.network.now c.event.new.self in
    let named = note_named c.args.network.now c.event.new.self c.kept.ensures c.ordered.result (subst (λ (e : Event). AreDeclared (length c.args.network.now.rows) e) (sym c.ordered.ensures) c.requires) (note_of c.in-Ok.happened) c.in-Ok.ensures.happened in
    if_answer c.append_note.result _ _ (λ line. record {
      note = note_of c.in-Ok.happened;
      happened = subst P c.ordered.ensures c.in-Ok.ensures.happened;
      named = named;
      text = line ∙ ap (λ (rs : List Row). c.args.out.now.items ++ if_wanted c.args.is_wanted (step_line (naming rs) c.args.step.now.line (written_note c.note.result))) rows
          ∙ ap (λ (n : Note). c.args.out.now.items ++ if_wanted c.args.is_wanted (step_line (naming c.args.network.now.rows) c.args.step.now.line n)) c.note.ensures;
    }) c.append_note.ensures
