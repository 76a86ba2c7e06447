use Rattle.std.proofs.Common.{◌≡◌, ◌∙◌, ap, map, subst, sym, Some, true}
use Rattle.std.specs.String.{string_bytes}
use Rattle.clap.specs.Words.{App, HasMatchesOf, takes}
use Rattle.command_words.specs.declared.command.Command.{Command}
use Rattle.command_words.specs.declared.command.Command.TheVariants.{Run, Step}
use Rattle.command_words.specs.declared.trace_flags.TraceFlags.{TraceFlags}
use Rattle.command_words.specs.Taken.{taken_by}
use Rattle.command_words.specs.Words.{loading, making}
use Rattle.command_words.proofs.Accepted.{accepted_load, accepted_make, accepted_run, accepted_step, accepted_takes}
use Rattle.command_words.proofs.command.Command.read_by_clap.Goals as goal
use Rattle.command_words.proofs.command.Command.read_by_clap.Goals.{in-Run, in-Step, in-Make, in-Load, in-Check}

pub found-requires : goal.found-requires
found-requires c =
    subst (λ (a : App). takes a (map string_bytes c.args.words.now) ≡ true) (sym c.in_ok-taken_by.ensures)
    (accepted_takes (map string_bytes c.args.words.now) c.args.self c.requires)

pub returns : goal.returns
returns c =
    let words = map string_bytes c.args.words.now in
    let found = subst (λ (a : App). HasMatchesOf a words c.in_ok-found.found) c.in_ok-taken_by.ensures c.in_ok-found.ensures in
    elim c.match-self.branch [
      | in-Run w ↦
          let flags = accepted_run words w.in-Run.field-0 c.in_ok-found.found (c.requires ∙ ap Some w.in-Run.is)
          (subst (λ (command : Command). HasMatchesOf (taken_by command) words c.in_ok-found.found) w.in-Run.is found) in
          w.result-is ∙ ap (λ (flags : TraceFlags). Some (Run flags)) (w.flags_found.ensures w.in-Run.field-0 flags.0 flags.1)
          ∙ ap Some (sym w.in-Run.is)
      | in-Step w ↦
          let flags = accepted_step words w.in-Step.field-0 c.in_ok-found.found (c.requires ∙ ap Some w.in-Step.is)
          (subst (λ (command : Command). HasMatchesOf (taken_by command) words c.in_ok-found.found) w.in-Step.is found) in
          w.result-is ∙ ap (λ (flags : TraceFlags). Some (Step flags)) (w.flags_found-in-Step.ensures w.in-Step.field-0 flags.0 flags.1)
          ∙ ap Some (sym w.in-Step.is)
      | in-Make w ↦
          w.result-is ∙ w.making.ensures
          ∙ ap making (w.size_found.ensures ∙ accepted_make words w.in-Make.field-0 c.in_ok-found.found (c.requires ∙ ap Some w.in-Make.is)
          (subst (λ (command : Command). HasMatchesOf (taken_by command) words c.in_ok-found.found) w.in-Make.is found))
          ∙ ap Some (sym w.in-Make.is)
      | in-Load w ↦
          w.result-is ∙ w.loading.ensures
          ∙ ap loading (w.size_found-in-Load.ensures ∙ accepted_load words w.in-Load.field-0 c.in_ok-found.found (c.requires ∙ ap Some w.in-Load.is)
          (subst (λ (command : Command). HasMatchesOf (taken_by command) words c.in_ok-found.found) w.in-Load.is found))
          ∙ ap Some (sym w.in-Load.is)
      | in-Check w ↦ w.result-is
    ]
