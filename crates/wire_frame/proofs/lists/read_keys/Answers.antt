use Rattle.std.proofs.Common.{◌+◌, ◌*◌, arith}
use Rattle.std.proofs.lemmas.Result.{err_from_is_err_and}
use Rattle.wire_frame.specs.Runs.{key_items}
use Rattle.wire_frame.proofs.Counting.{keys_have, counted_fails_count, counted_fails_items, counted_stands}
use Rattle.wire_frame.proofs.lists.read_keys.Goals as goal

pub returns-in_err-count-clause-bad : goal.returns-in_err-count-clause-bad
returns-in_err-count-clause-bad c =
    let p = err_from_is_err_and c.from_residual.result c.from_residual.ensures.1 in
    rw (p.1, p.2) (counted_fails_count key_items 1 c.args.bytes.now c.args.at c.in_err-count.field-0.0 keys_have c.in_err-count.ensures.bad)

pub returns-in_err-keys-clause-bad : goal.returns-in_err-keys-clause-bad
returns-in_err-keys-clause-bad c =
    let p = err_from_is_err_and c.from_residual-in_err-keys.result c.from_residual-in_err-keys.ensures.1 in
    rw (p.1, p.2) (counted_fails_items key_items 1 c.in_ok-count.count c.args.bytes.now c.args.at (c.args.at + 1) c.in_err-keys.field-0.0 c.in_ok-count.ensures.byte c.in_err-keys.ensures.bad)

pub returns-clause-keys : goal.returns-clause-keys
returns-clause-keys c =
    counted_stands key_items 1 c.in_ok-count.count c.in_ok-keys.keys c.args.bytes.now c.args.at (c.args.at + 1) (c.args.at + 1 + 2 * c.in_ok-count.count) (c.args.at + 1 + 2 * c.from.result) c.in_ok-count.ensures.byte c.in_ok-keys.ensures.keys (omega arith)
