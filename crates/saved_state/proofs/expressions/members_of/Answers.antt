use Rattle.std.proofs.Common.{suc, ◌++◌, ◌<◌, ◌^◌, arith, drop, flat_map}
use Rattle.std.proofs.lemmas.Result.{err_from_is_err_and}
use Rattle.saved_state.specs.Bytes.{u16_bytes}
use Rattle.saved_state.proofs.ListLemmas.{item_at, next_in_front, read_next}
use Rattle.saved_state.proofs.expressions.members_of.Goals as goal

pub returns-in_err-id : goal.returns-in_err-id
returns-in_err-id c ids more len small is =
    let p = err_from_is_err_and c.from_residual.result c.from_residual.ensures.1 in
    let to = c.loop.invariant ids more len small is in
    let at = item_at (λ id. id < 2 ^ 16) ids c.loop.counter small (omega arith) in
    rw (p.1, p.2) (c.in_err-id.ensures at.item (flat_map u16_bytes (drop (suc c.loop.counter) ids) ++ more) at.good (next_in_front (λ id. id < 2 ^ 16) u16_bytes ids more c.loop.counter c.loop.ids c.loop.rest.now at to))

pub loop-preserved : goal.loop-preserved
loop-preserved c ids more len small is =
    let to = c.loop.invariant ids more len small is in
    let at = item_at (λ id. id < 2 ^ 16) ids c.loop.counter small (omega arith) in
    let found = c.in_ok-id.ensures at.item (flat_map u16_bytes (drop (suc c.loop.counter) ids) ++ more) at.good (next_in_front (λ id. id < 2 ^ 16) u16_bytes ids more c.loop.counter c.loop.ids c.loop.rest.now at to) in
    rw (c.in_ok-push.ensures.ok) (read_next (λ id. id < 2 ^ 16) u16_bytes ids more c.loop.counter c.loop.ids c.loop.rest.now c.in_ok-id.id c.in_ok-id.after.now at to found.0 found.1)
