use Rattle.std.proofs.Common.{◌≡◌, ◌<◌, ◌⊎◌, get_or, arith, inl, inr}
use Rattle.std.proofs.lemmas.Result.{err_from_is_err_and}
use Rattle.std.proofs.lemmas.Bool.{cases_lt}
use Rattle.wire_frame.specs.declared.errors.FrameError.TheVariants as error
use Rattle.wire_frame.specs.declared.frame.Frame.TheVariants.{Subscribe, Unsubscribe}
use Rattle.wire_frame.specs.declared.reason.FrameReason.TheVariants.{Short, Kind, Epoch}
use Rattle.wire_frame.specs.Bodies.{announced_body, cargo_body, delta_body, of_announced, of_cargo, of_delta}
use Rattle.wire_frame.specs.LentFrames.{announced_in, delta_in}
use Rattle.wire_frame.specs.Parts.{clock_part}
use Rattle.wire_frame.proofs.Told.{front_of, refused_of}
use Rattle.wire_frame.proofs.Whole.{kind_fails, kind_stands_whole, nothing_fails, kind_wrong, subscribe_kind, unsubscribe_kind, sources_kind, carried_kind, changed_kind, sources_of, carried_of, changed_of}
use Rattle.wire_frame.proofs.read.read_frame_ref.Goals as goal

pub returns-in_err-read_clock-in-1-clause-bad : goal.returns-in_err-read_clock-in-1-clause-bad
returns-in_err-read_clock-in-1-clause-bad c =
    let p = err_from_is_err_and c.from_residual.result c.from_residual.ensures.1 in
    let bytes = c.args.bytes.now in
    let e = c.in_err-read_clock-in-1.field-0.0 in
    let first : get_or bytes 0 0 ≡ 1 = omega arith in
    rw (p.1, p.2) (refused_of bytes e (kind_fails 1 (clock_part Epoch) Subscribe bytes e subscribe_kind (omega arith) first c.in_err-read_clock-in-1.ensures.bad))

pub returns-in_err-read_clock-in-2-clause-bad : goal.returns-in_err-read_clock-in-2-clause-bad
returns-in_err-read_clock-in-2-clause-bad c =
    let p = err_from_is_err_and c.from_residual-in_err-read_clock-in-2.result c.from_residual-in_err-read_clock-in-2.ensures.1 in
    let bytes = c.args.bytes.now in
    let e = c.in_err-read_clock-in-2.field-0.0 in
    let first : get_or bytes 0 0 ≡ 2 = omega arith in
    rw (p.1, p.2) (refused_of bytes e (kind_fails 2 (clock_part Epoch) Unsubscribe bytes e unsubscribe_kind (omega arith) first c.in_err-read_clock-in-2.ensures.bad))

pub returns-in_err-announced-in-3-clause-bad : goal.returns-in_err-announced-in-3-clause-bad
returns-in_err-announced-in-3-clause-bad c =
    let p = err_from_is_err_and c.from_residual-in_err-announced-in-3.result c.from_residual-in_err-announced-in-3.ensures.1 in
    let bytes = c.args.bytes.now in
    let e = c.in_err-announced-in-3.field-0.0 in
    let first : get_or bytes 0 0 ≡ 3 = omega arith in
    rw (p.1, p.2) (refused_of bytes e (kind_fails 3 announced_body sources_of bytes e sources_kind (omega arith) first c.in_err-announced-in-3.ensures.bad))

pub returns-in_err-cargo-in-4-clause-bad : goal.returns-in_err-cargo-in-4-clause-bad
returns-in_err-cargo-in-4-clause-bad c =
    let p = err_from_is_err_and c.from_residual-in_err-cargo-in-4.result c.from_residual-in_err-cargo-in-4.ensures.1 in
    let bytes = c.args.bytes.now in
    let e = c.in_err-cargo-in-4.field-0.0 in
    let first : get_or bytes 0 0 ≡ 4 = omega arith in
    rw (p.1, p.2) (refused_of bytes e (kind_fails 4 cargo_body carried_of bytes e carried_kind (omega arith) first c.in_err-cargo-in-4.ensures.bad))

pub returns-in_err-delta-in-5-clause-bad : goal.returns-in_err-delta-in-5-clause-bad
returns-in_err-delta-in-5-clause-bad c =
    let p = err_from_is_err_and c.from_residual-in_err-delta-in-5.result c.from_residual-in_err-delta-in-5.ensures.1 in
    let bytes = c.args.bytes.now in
    let e = c.in_err-delta-in-5.field-0.0 in
    let first : get_or bytes 0 0 ≡ 5 = omega arith in
    rw (p.1, p.2) (refused_of bytes e (kind_fails 5 delta_body changed_of bytes e changed_kind (omega arith) first c.in_err-delta-in-5.ensures.bad))

pub returns-in_ok-announced-in-3-clause-ok : goal.returns-in_ok-announced-in-3-clause-ok
returns-in_ok-announced-in-3-clause-ok c =
    let bytes = c.args.bytes.now in
    let x = of_announced (announced_in c.in_ok-announced-in-3.announced) in
    let first : get_or bytes 0 0 ≡ 3 = omega arith in
    front_of bytes (sources_of x) c.in_ok-announced-in-3.len (kind_stands_whole 3 announced_body sources_of bytes c.in_ok-announced-in-3.len x sources_kind (omega arith) first c.in_ok-announced-in-3.ensures.announced)

pub returns-in_ok-cargo-in-4-clause-ok : goal.returns-in_ok-cargo-in-4-clause-ok
returns-in_ok-cargo-in-4-clause-ok c =
    let bytes = c.args.bytes.now in
    let x = of_cargo c.in_ok-cargo-in-4.cargo in
    let first : get_or bytes 0 0 ≡ 4 = omega arith in
    front_of bytes (carried_of x) c.in_ok-cargo-in-4.len (kind_stands_whole 4 cargo_body carried_of bytes c.in_ok-cargo-in-4.len x carried_kind (omega arith) first c.in_ok-cargo-in-4.ensures.cargo)

pub returns-in_ok-delta-in-5-clause-ok : goal.returns-in_ok-delta-in-5-clause-ok
returns-in_ok-delta-in-5-clause-ok c =
    let bytes = c.args.bytes.now in
    let x = of_delta (delta_in c.in_ok-delta-in-5.delta) in
    let first : get_or bytes 0 0 ≡ 5 = omega arith in
    front_of bytes (changed_of x) c.in_ok-delta-in-5.len (kind_stands_whole 5 delta_body changed_of bytes c.in_ok-delta-in-5.len x changed_kind (omega arith) first c.in_ok-delta-in-5.ensures.delta)

pub returns-in-empty-clause-bad : goal.returns-in-empty-clause-bad
returns-in-empty-clause-bad c = refused_of c.args.bytes.now (error.Bad 0 Short) (nothing_fails c.args.bytes.now (omega arith))

pub returns-in-len1-up-clause-bad : goal.returns-in-len1-up-clause-bad
returns-in-len1-up-clause-bad c =
    let bytes = c.args.bytes.now in
    let out : (get_or bytes 0 0 < 1) ⊎ (5 < get_or bytes 0 0) = elim (cases_lt (get_or bytes 0 0) 1) [ inl l ↦ inl l | inr l ↦ inr (omega arith) ] in
    refused_of bytes (error.Bad 0 Kind) (kind_wrong bytes (omega arith) out)
