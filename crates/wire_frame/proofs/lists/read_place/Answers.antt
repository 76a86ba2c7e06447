use Rattle.std.proofs.Common.{◌+◌, ◌-◌, arith}
use Rattle.std.proofs.lemmas.Result.{err_from_is_err_and}
use Rattle.wire_frame.proofs.Readable.{place_fails_first, place_fails_second}
use Rattle.wire_frame.proofs.lists.read_place.Goals as goal

pub returns-in_err-place-clause-bad : goal.returns-in_err-place-clause-bad
returns-in_err-place-clause-bad c =
    let p = err_from_is_err_and c.from_residual.result c.from_residual.ensures.1 in
    rw (p.1, p.2) (place_fails_first c.args.least c.args.left (63 - c.args.left) c.args.bytes.now c.args.at c.in_err-place.field-0.0 (omega arith) c.in_err-place.ensures.bad)

pub returns-in_err-clock-clause-bad : goal.returns-in_err-clock-clause-bad
returns-in_err-clock-clause-bad c =
    let p = err_from_is_err_and c.from_residual-in_err-clock.result c.from_residual-in_err-clock.ensures.1 in
    rw (p.1, p.2) (
    place_fails_second c.args.least c.args.left (63 - c.args.left) c.in_ok-place.place c.args.bytes.now c.args.at (c.args.at + 1) c.in_err-clock.field-0.0 (omega arith)
    c.in_ok-place.ensures.byte c.in_err-clock.ensures.bad)
