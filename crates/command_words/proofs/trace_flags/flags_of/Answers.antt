use Rattle.std.proofs.Common.{◌∙◌, sym, None, Some}
use Rattle.std.specs.String.{string_bytes}
use Rattle.command_words.proofs.FlagWords.{word_taken}
use Rattle.command_words.proofs.trace_flags.flags_of.Goals as goal

pub returns-in_err-flags : goal.returns-in_err-flags
returns-in_err-flags c =
    c.from_residual.ensures
    ∙ sym (word_taken string_bytes c.args.words.now c.loop-word.word-index c.word-item.result c.as_str.result.now c.loop-word.flags None
    c.loop-word-test.true c.word-item.is c.as_str.ensures.value (sym c.with_flag.ensures ∙ c.in_err-flags.was))
    ∙ c.loop-word.invariant

pub loop-word-preserved : goal.loop-word-preserved
loop-word-preserved c =
    sym (word_taken string_bytes c.args.words.now c.loop-word.word-index c.word-item.result c.as_str.result.now c.loop-word.flags (Some c.in_ok-flags.flags)
    c.loop-word-test.true c.word-item.is c.as_str.ensures.value (sym c.with_flag.ensures ∙ c.in_ok-flags.was))
    ∙ c.loop-word.invariant
