use Rattle.std.proofs.Common.{◌≡◌, ◌∙◌, ◌⊎◌, map, subst, sym, Option, Some}
use Rattle.std.specs.String.{string_bytes}
use Rattle.command_words.specs.declared.command.Command.{Command}
use Rattle.command_words.specs.declared.command.Command.TheVariants as command
use Rattle.command_words.proofs.Sizes.{plain_size_made, plain_size_loaded}
use Rattle.qprop_cli.proofs.plain.qprop_plain.Goals as goal

pub answer-requires-clause-made_size : goal.answer-requires-clause-made_size
answer-requires-clause-made_size g c = λ size is. plain_size_made (map string_bytes c.args.words.now) size (sym c.in-Ok.ensures.command ∙ is)

pub answer-requires-clause-loaded_size : goal.answer-requires-clause-loaded_size
answer-requires-clause-loaded_size g c = λ size is. plain_size_loaded (map string_bytes c.args.words.now) size (sym c.in-Ok.ensures.command ∙ is)

pub returns-in-Ok-clause-unread : goal.returns-in-Ok-clause-unread
returns-in-Ok-clause-unread g c = λ size words.
    let P : Option Command → Type 0 = λ asked. (asked ≡ Some (command.Make size)) ⊎ (asked ≡ Some (command.Load size)) in
    c.answer.ensures.unread size (subst P (sym c.in-Ok.ensures.command) words)
