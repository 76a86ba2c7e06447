use Rattle.std.proofs.Common.{◌∙◌, ap, map, sym}
use Rattle.std.specs.Prelude.{option_and_then}
use Rattle.std.specs.String.{string_bytes}
use Rattle.command_words.specs.WordByWord.{ended}
use Rattle.command_words.proofs.AllowedItems.{flags_by_word}
use Rattle.command_words.proofs.asked.run_flags_of.Goals as goal

pub returns : goal.returns
returns c =
    c.ended.ensures
    ∙ ap (option_and_then ended) (sym c.in_ok-asked_by.was ∙ c.asked_by.ensures)
    ∙ flags_by_word (map string_bytes c.args.words.now)

pub returns-in_err-asked_by : goal.returns-in_err-asked_by
returns-in_err-asked_by c =
    c.from_residual.ensures
    ∙ ap (option_and_then ended) (sym c.in_err-asked_by.was ∙ c.asked_by.ensures)
    ∙ flags_by_word (map string_bytes c.args.words.now)
