use Rattle.std.proofs.Common.{◌≡◌, ◌∙◌, ap, ap₂, map, subst, sym, Some, true}
use Rattle.std.specs.String.{string_bytes}
use Rattle.clap.specs.Words.{App, HasMatchesOf, takes}
use Rattle.command_words.specs.declared.kept_command.KeptCommand.{KeptCommand}
use Rattle.command_words.specs.declared.kept_command.KeptCommand.TheVariants.{Run, Step}
use Rattle.command_words.specs.KeptTaken.{kept_taken_by}
use Rattle.command_words.proofs.KeptFound.{archive_run, archive_step, archive_takes}
use Rattle.command_words.proofs.kept_command.KeptCommand.read_by_clap.Goals as goal
use Rattle.command_words.proofs.kept_command.KeptCommand.read_by_clap.Goals.{in-Run, in-Step, in-Plain}

pub found-requires : goal.found-requires
found-requires c =
    subst (λ (a : App). takes a (map string_bytes c.args.words.now) ≡ true) (sym c.in_ok-kept_taken_by.ensures)
    (archive_takes (map string_bytes c.args.words.now) c.args.self c.requires)

pub returns : goal.returns
returns c =
    let words = map string_bytes c.args.words.now in
    let found = subst (λ (a : App). HasMatchesOf a words c.in_ok-found.found) c.in_ok-kept_taken_by.ensures c.in_ok-found.ensures in
    elim c.match-self.branch [
      | in-Run w ↦
          let flags = archive_run words w.in-Run.field-0 w.in-Run.field-1 c.in_ok-found.found (c.requires ∙ ap Some w.in-Run.is)
          (subst (λ (command : KeptCommand). HasMatchesOf (kept_taken_by command) words c.in_ok-found.found) w.in-Run.is found) in
          ap Some (w.result-is ∙ ap₂ Run (w.flags_found.ensures w.in-Run.field-0 flags.0.0 flags.0.1)
          (w.keeps_found.ensures w.in-Run.field-1 flags.1.keep flags.1.resume flags.1.leg)
          ∙ sym w.in-Run.is)
      | in-Step w ↦
          let flags = archive_step words w.in-Step.field-0 w.in-Step.field-1 c.in_ok-found.found (c.requires ∙ ap Some w.in-Step.is)
          (subst (λ (command : KeptCommand). HasMatchesOf (kept_taken_by command) words c.in_ok-found.found) w.in-Step.is found) in
          ap Some (w.result-is ∙ ap₂ Step (w.flags_found-in-Step.ensures w.in-Step.field-0 flags.0.0 flags.0.1)
          (w.keeps_found-in-Step.ensures w.in-Step.field-1 flags.1.keep flags.1.resume flags.1.leg)
          ∙ sym w.in-Step.is)
      | in-Plain w ↦ ap Some w.result-is
    ]
