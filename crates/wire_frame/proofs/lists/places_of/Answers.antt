use Rattle.std.proofs.Common.{◌≡◌, ◌+◌, ◌-◌, ◌*◌, ◌∷◌, ◌++◌, [], List, refl, subst, sym, arith}
use Rattle.std.proofs.lemmas.Result.{err_from_is_err_and}
use Rattle.wire_frame.specs.declared.place_clock.PlaceClock.{PlaceClock}
use Rattle.wire_frame.specs.Parts.{Stands}
use Rattle.wire_frame.specs.Runs.{place_items, run_part}
use Rattle.wire_frame.proofs.Lending.{named_lent, lent_stand}
use Rattle.wire_frame.proofs.Reading.{IsReading, reading_starts, reading_steps, reading_fails, reading_ends}
use Rattle.wire_frame.proofs.Readable.{places_readable}
use Rattle.wire_frame.proofs.lists.places_of.Goals as goal

pub loop-i-init : goal.loop-i-init
loop-i-init c =
    let count = c.args.count in
    let bytes = c.args.bytes.now in
    let at = c.args.at in
    let all : count ≡ count - 0 = omega arith in
    record {
      done = [];
      reading = subst (λ n. IsReading place_items 0 count bytes at [] 0 n at) all (reading_starts place_items 0 count bytes at (omega arith));
      to = omega arith;
      room = omega arith;
    }

pub returns-in_err-named-clause-bad : goal.returns-in_err-named-clause-bad
returns-in_err-named-clause-bad c =
    let p = err_from_is_err_and c.from_residual.result c.from_residual.ensures.1 in
    let count = c.args.count in
    let i = c.loop-i.i in
    let left = count - 1 - i in
    rw (p.1, p.2) (
    reading_fails place_items 0 count c.args.bytes.now c.args.at c.loop-i.invariant.done c.loop-i.least left (count - i) c.loop-i.to c.in_err-named.field-0.0
    places_readable c.loop-i.invariant.reading (omega arith) c.in_err-named.ensures.bad)

pub loop-i-preserved : goal.loop-i-preserved
loop-i-preserved c =
    let count = c.args.count in
    let i = c.loop-i.i in
    let left = count - 1 - i in
    let done = c.loop-i.invariant.done in
    let named = c.in_ok-named.named in
    record {
      done = done ++ named ∷ [];
      reading = reading_steps place_items 0 count c.args.bytes.now c.args.at done (done ++ named ∷ []) c.loop-i.least (named.place + 1) left (count - (i + 1)) (count - i)
          c.loop-i.to (c.loop-i.to + 5) (c.loop-i.to + 5) named places_readable c.loop-i.invariant.reading (omega arith) c.in_ok-named.ensures.named refl (omega arith) (omega arith) refl;
      to = omega arith;
      room = omega (arith, c.in_ok-named.ensures.named.good);
    }

pub returns-clause-places : goal.returns-clause-places
returns-clause-places c =
    let count = c.args.count in
    let bytes = c.args.bytes.now in
    let at = c.args.at in
    let ends = reading_ends place_items 0 count bytes at c.loop-i.invariant.done c.loop-i.least (count - c.loop-i.i) c.loop-i.to c.loop-i.invariant.reading (omega arith) in
    let named = lent_stand named_lent count c.loop-i.invariant.done bytes at c.loop-i.to ends in
    let told = subst (λ (xs : List PlaceClock). Stands (run_part place_items 0 count) xs bytes at c.loop-i.to) (sym c.new.ensures) named in
    let all : c.loop-i.to ≡ at + 5 * count = omega arith in
    subst (λ n. Stands (run_part place_items 0 count) c.new.result bytes at n) all told
