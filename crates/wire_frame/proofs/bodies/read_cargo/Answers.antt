use Rattle.std.proofs.Common.{arith}
use Rattle.std.proofs.lemmas.Result.{err_from_is_err_and}
use Rattle.wire_frame.specs.Bodies.{counted_items, valued}
use Rattle.wire_frame.specs.Runs.{clock_items}
use Rattle.wire_frame.proofs.Counting.{clocks_have, counted_some, under_fails_epoch, under_fails_body, valued_some, valued_fails_value, valued_fails_body}
use Rattle.wire_frame.proofs.bodies.read_cargo.Goals as goal

pub returns-in_err-epoch-clause-bad : goal.returns-in_err-epoch-clause-bad
returns-in_err-epoch-clause-bad c =
    let p = err_from_is_err_and c.from_residual.result c.from_residual.ensures.1 in
    rw (p.1, p.2) (under_fails_epoch (valued (counted_items clock_items 1)) c.args.bytes.now 1 c.in_err-epoch.field-0.0 (valued_some (counted_items clock_items 1) (counted_some clock_items 1 clocks_have (omega arith))) c.in_err-epoch.ensures.bad)

pub returns-in_err-value-clause-bad : goal.returns-in_err-value-clause-bad
returns-in_err-value-clause-bad c =
    let p = err_from_is_err_and c.from_residual-in_err-value.result c.from_residual-in_err-value.ensures.1 in
    let e = c.in_err-value.field-0.0 in
    rw (p.1, p.2) (
    under_fails_body (valued (counted_items clock_items 1)) c.args.bytes.now 1 5 c.in_ok-epoch.epoch e c.in_ok-epoch.ensures.clock
    (valued_fails_value (counted_items clock_items 1) c.args.bytes.now 5 e (counted_some clock_items 1 clocks_have (omega arith)) c.in_err-value.ensures.bad))

pub returns-in_err-clocks-clause-bad : goal.returns-in_err-clocks-clause-bad
returns-in_err-clocks-clause-bad c =
    let p = err_from_is_err_and c.from_residual-in_err-clocks.result c.from_residual-in_err-clocks.ensures.1 in
    let e = c.in_err-clocks.field-0.0 in
    rw (p.1, p.2) (
    under_fails_body (valued (counted_items clock_items 1)) c.args.bytes.now 1 5 c.in_ok-epoch.epoch e c.in_ok-epoch.ensures.clock
    (valued_fails_body (counted_items clock_items 1) c.args.bytes.now 5 c.in_ok-value.at c.in_ok-value.value e c.in_ok-value.ensures.value c.in_err-clocks.ensures.bad))
