use Rattle.std.proofs.Common.{◌≡◌, ◌≤◌, drop}
use Rattle.command_words.specs.Words.{number_behind}
use Rattle.command_words.proofs.numbers.number_behind.Given as goal

abbrev pub invariant-loop-digit : goal.invariant-loop-digit
invariant-loop-digit l = (number_behind 0 l.digits ≡ number_behind l.number (drop l.digit-index l.digits)) × (l.number ≤ 65536)
