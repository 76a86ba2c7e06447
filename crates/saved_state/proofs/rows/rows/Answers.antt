use Rattle.std.proofs.Common.{suc, ◌∷◌, [], ◌++◌, arith, drop, flat_map}
use Rattle.std.proofs.lemmas.Result.{err_from_is_err_and}
use Rattle.std.proofs.lemmas.List.{length-append}
use Rattle.std.proofs.lemmas.List.Elements.{All-push}
use Rattle.saved_state.specs.Named.{named_bytes, IsReadRow, IsNamedRow}
use Rattle.saved_state.proofs.ListLemmas.{item_at, next_in_front, read_next}
use Rattle.saved_state.proofs.rows.rows.Goals as goal

pub returns-in_err-row-clause-reads : goal.returns-in_err-row-clause-reads
returns-in_err-row-clause-reads c rows len good is =
    let p = err_from_is_err_and c.from_residual.result c.from_residual.ensures.1 in
    let to = c.loop.invariant.2 rows len good is in
    let at = item_at IsReadRow rows c.loop.counter good (omega arith) in
    rw (p.1, p.2) (c.in_err-row.ensures.reads at.item (flat_map named_bytes (drop (suc c.loop.counter) rows) ++ []) at.good
    (next_in_front IsReadRow named_bytes rows [] c.loop.counter c.loop.rows c.loop.rest.now at to))

pub loop-preserved : goal.loop-preserved
loop-preserved c = (
  rw (c.in_ok-push.ensures.ok) (All-push IsNamedRow c.loop.rows c.in_ok-row.row c.loop.invariant.0 c.in_ok-row.ensures.row),
  rw (c.in_ok-push.ensures.ok) (omega (arith, c.loop.invariant.1, length-append c.loop.rows (c.in_ok-row.row ∷ []))),
  (λ rows len good is.
      let to = c.loop.invariant.2 rows len good is in
      let at = item_at IsReadRow rows c.loop.counter good (omega arith) in
      let found = c.in_ok-row.ensures.reads at.item (flat_map named_bytes (drop (suc c.loop.counter) rows) ++ []) at.good
      (next_in_front IsReadRow named_bytes rows [] c.loop.counter c.loop.rows c.loop.rest.now at to) in
      rw (c.in_ok-push.ensures.ok) (read_next IsReadRow named_bytes rows [] c.loop.counter c.loop.rows c.loop.rest.now c.in_ok-row.row c.in_ok-row.after.now at to found.0 found.1)),
)
