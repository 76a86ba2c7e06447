use Rattle.std.proofs.Common.{◌≡◌, ◌+◌, drop}
use Rattle.svc_expr.specs.Grammar.{name_index}
use Rattle.saved_state.specs.Named.{names_of}
use Rattle.saved_state.proofs.numbering.place_of.Given as goal

abbrev pub invariant-loop-place : goal.invariant-loop-place
invariant-loop-place l = l.place + name_index (names_of (drop l.place l.rows)) l.name ≡ name_index (names_of l.rows) l.name
