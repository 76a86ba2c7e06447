use Rattle.std.proofs.Common.{◌≡◌, [], List, All, length, flat_map}
use Rattle.saved_state.specs.Named.{named_bytes, IsReadRow, IsNamedRow}
use Rattle.saved_state.specs.declared.named.NamedRow.{NamedRow}
use Rattle.saved_state.proofs.ListLemmas.{IsReadTo}
use Rattle.saved_state.proofs.rows.rows.Given as goal

abbrev pub invariant-loop : goal.invariant-loop
invariant-loop l =
    All IsNamedRow l.rows × (length l.rows ≡ l.counter)
    × ((rows : List NamedRow) → length rows ≡ l.count → All IsReadRow rows → l.bytes ≡ flat_map named_bytes rows → IsReadTo named_bytes rows [] l.counter l.rows l.rest)
