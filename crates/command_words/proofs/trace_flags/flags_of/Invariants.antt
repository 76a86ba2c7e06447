use Rattle.std.proofs.Common.{◌≡◌, map, drop}
use Rattle.std.specs.String.{string_bytes}
use Rattle.command_words.specs.Words.{flags_of}
use Rattle.command_words.proofs.FlagWords.{flags_from}
use Rattle.command_words.proofs.trace_flags.flags_of.Given as goal

abbrev pub invariant-loop-word : goal.invariant-loop-word
invariant-loop-word l = flags_from l.flags (map string_bytes (drop l.word-index l.words)) ≡ flags_of (map string_bytes l.words)
