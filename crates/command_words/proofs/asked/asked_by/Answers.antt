use Rattle.std.proofs.Common.{◌∙◌, sym, None, Some}
use Rattle.std.specs.String.{string_bytes}
use Rattle.command_words.proofs.ItemWords.{word_taken}
use Rattle.command_words.proofs.asked.asked_by.Goals as goal

pub returns-in_err-asked : goal.returns-in_err-asked
returns-in_err-asked c =
    c.from_residual.ensures
    ∙ sym (word_taken string_bytes c.args.words.now c.loop-word.word-index c.word-item.result c.as_str.result.now c.loop-word.asked None
    c.loop-word-test.true c.word-item.is c.as_str.ensures.value (sym c.with_word.ensures ∙ c.in_err-asked.was))
    ∙ c.loop-word.invariant

pub loop-word-preserved : goal.loop-word-preserved
loop-word-preserved c =
    sym (word_taken string_bytes c.args.words.now c.loop-word.word-index c.word-item.result c.as_str.result.now c.loop-word.asked (Some c.in_ok-asked.asked)
    c.loop-word-test.true c.word-item.is c.as_str.ensures.value (sym c.with_word.ensures ∙ c.in_ok-asked.was))
    ∙ c.loop-word.invariant
