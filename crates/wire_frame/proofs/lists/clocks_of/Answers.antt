use Rattle.std.proofs.Common.{◌≡◌, ◌+◌, ◌-◌, ◌*◌, List, refl, subst, sym, arith, ℕ}
use Rattle.std.proofs.lemmas.Result.{err_from_is_err_and}
use Rattle.wire_frame.specs.Parts.{Stands}
use Rattle.wire_frame.specs.Runs.{clock_items, run_part}
use Rattle.wire_frame.proofs.Reading.{reading_steps, reading_fails, reading_ends}
use Rattle.wire_frame.proofs.Readable.{clocks_readable}
use Rattle.wire_frame.proofs.lists.clocks_of.Goals as goal

pub returns-in_err-clock-clause-bad : goal.returns-in_err-clock-clause-bad
returns-in_err-clock-clause-bad c =
    let p = err_from_is_err_and c.from_residual-in_err-clock.result c.from_residual-in_err-clock.ensures.1 in
    let count = c.args.count in
    let i = c.loop.counter in
    let left = count - 1 - i in
    rw (p.1, p.2) (
    reading_fails clock_items 0 count c.args.bytes.now c.args.at c.loop.clocks.items 0 left (count - i) c.loop.to c.in_err-clock.field-0.0
    clocks_readable c.loop.invariant.reading (omega arith) c.in_err-clock.ensures.bad)

pub loop-preserved : goal.loop-preserved
loop-preserved c =
    let count = c.args.count in
    let i = c.loop.counter in
    let left = count - 1 - i in
    record {
      reading = reading_steps clock_items 0 count c.args.bytes.now c.args.at c.loop.clocks.items c.push_reserved.new.self.items 0 0 left (count - (i + 1)) (count - i)
          c.loop.to (c.loop.to + 4) (c.loop.to + 4) c.in_ok-clock.clock clocks_readable c.loop.invariant.reading (omega arith) c.in_ok-clock.ensures.clock (sym c.push_reserved.ensures.items) (omega arith) (omega arith) refl;
      to = omega arith;
      len = omega arith;
      capacity = omega arith;
    }

pub returns-clause-clocks : goal.returns-clause-clocks
returns-clause-clocks c =
    let count = c.args.count in
    let at = c.args.at in
    let ends = reading_ends clock_items 0 count c.args.bytes.now at c.loop.clocks.items 0 (count - c.loop.counter) c.loop.to c.loop.invariant.reading (omega arith) in
    let named = subst (λ (xs : List ℕ). Stands (run_part clock_items 0 count) xs c.args.bytes.now at c.loop.to) (sym c.from_vec.ensures) ends in
    let all : c.loop.to ≡ at + 4 * count = omega arith in
    subst (λ n. Stands (run_part clock_items 0 count) c.from_vec.result c.args.bytes.now at n) all named
