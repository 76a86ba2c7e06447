use Rattle.std.proofs.Common.{◌≡◌, ◌<◌, All, length, map, take}
use Rattle.svc_expr.specs.Grammar.{name_index}
use Rattle.saved_state.specs.Named.{names_of}
use Rattle.saved_state.proofs.numbering.numbers_of.Given as goal

abbrev pub invariant-loop-name : goal.invariant-loop-name
invariant-loop-name l =
    (l.ids ≡ map (name_index (names_of l.rows)) (take l.name-index l.names))
    × All (λ name. name_index (names_of l.rows) name < length (names_of l.rows)) (take l.name-index l.names)
