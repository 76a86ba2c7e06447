use Rattle.std.proofs.Common.{◌≡◌, All, map, take}
use Rattle.saved_state.specs.Named.{names_of, numbered_row, IsKnown}
use Rattle.saved_state.proofs.numbering.numbered_rows.Given as goal

abbrev pub invariant-loop-row : goal.invariant-loop-row
invariant-loop-row l =
    (l.services ≡ map (numbered_row (names_of l.rows)) (take l.row-index l.rows))
    × All (λ row. IsKnown (names_of l.rows) row.definition) (take l.row-index l.rows)
