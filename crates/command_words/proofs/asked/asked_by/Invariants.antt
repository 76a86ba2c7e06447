use Rattle.std.proofs.Common.{◌≡◌, map, drop}
use Rattle.std.specs.String.{string_bytes}
use Rattle.command_words.specs.WordByWord.{asked_by, nothing_asked}
use Rattle.command_words.proofs.asked.asked_by.Given as goal

abbrev pub invariant-loop-word : goal.invariant-loop-word
invariant-loop-word l = asked_by l.asked (map string_bytes (drop l.word-index l.words)) ≡ asked_by nothing_asked (map string_bytes l.words)
