use Rattle.std.proofs.Common.{arith}
use Rattle.std.proofs.lemmas.Result.{err_from_is_err_and}
use Rattle.wire_frame.specs.Bodies.{counted_items}
use Rattle.wire_frame.specs.Runs.{key_items}
use Rattle.wire_frame.proofs.Counting.{keys_have, counted_some, under_fails_epoch, under_fails_body}
use Rattle.wire_frame.proofs.bodies.read_announced.Goals as goal

pub returns-in_err-epoch-clause-bad : goal.returns-in_err-epoch-clause-bad
returns-in_err-epoch-clause-bad c =
    let p = err_from_is_err_and c.from_residual.result c.from_residual.ensures.1 in
    rw (p.1, p.2) (under_fails_epoch (counted_items key_items 1) c.args.bytes.now 1 c.in_err-epoch.field-0.0 (counted_some key_items 1 keys_have (omega arith)) c.in_err-epoch.ensures.bad)

pub returns-in_err-keys-clause-bad : goal.returns-in_err-keys-clause-bad
returns-in_err-keys-clause-bad c =
    let p = err_from_is_err_and c.from_residual-in_err-keys.result c.from_residual-in_err-keys.ensures.1 in
    let e = c.in_err-keys.field-0.0 in
    rw (p.1, p.2) (under_fails_body (counted_items key_items 1) c.args.bytes.now 1 5 c.in_ok-epoch.epoch e c.in_ok-epoch.ensures.clock c.in_err-keys.ensures.bad)
