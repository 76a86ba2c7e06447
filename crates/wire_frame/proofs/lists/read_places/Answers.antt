use Rattle.std.proofs.Common.{◌+◌, ◌*◌, arith}
use Rattle.std.proofs.lemmas.Result.{err_from_is_err_and}
use Rattle.wire_frame.specs.Runs.{place_items}
use Rattle.wire_frame.proofs.Counting.{places_have, counted_fails_count, counted_fails_items, counted_stands}
use Rattle.wire_frame.proofs.lists.read_places.Goals as goal

pub returns-in_err-count-clause-bad : goal.returns-in_err-count-clause-bad
returns-in_err-count-clause-bad c =
    let p = err_from_is_err_and c.from_residual.result c.from_residual.ensures.1 in
    rw (p.1, p.2) (counted_fails_count place_items 0 c.args.bytes.now c.args.at c.in_err-count.field-0.0 places_have c.in_err-count.ensures.bad)

pub returns-in_err-clocks-clause-bad : goal.returns-in_err-clocks-clause-bad
returns-in_err-clocks-clause-bad c =
    let p = err_from_is_err_and c.from_residual-in_err-clocks.result c.from_residual-in_err-clocks.ensures.1 in
    rw (p.1, p.2) (counted_fails_items place_items 0 c.in_ok-count.count c.args.bytes.now c.args.at (c.args.at + 1) c.in_err-clocks.field-0.0 c.in_ok-count.ensures.byte c.in_err-clocks.ensures.bad)

pub returns-clause-places : goal.returns-clause-places
returns-clause-places c =
    counted_stands place_items 0 c.in_ok-count.count c.in_ok-clocks.clocks c.args.bytes.now c.args.at (c.args.at + 1) (c.args.at + 1 + 5 * c.in_ok-count.count) (c.args.at + 1 + 5 * c.from.result) c.in_ok-count.ensures.byte c.in_ok-clocks.ensures.places (omega arith)
