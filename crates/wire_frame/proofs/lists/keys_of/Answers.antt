use Rattle.std.proofs.Common.{◌≡◌, ◌+◌, ◌-◌, ◌*◌, ◌∷◌, ◌++◌, [], List, refl, subst, sym, arith, ℕ}
use Rattle.std.proofs.lemmas.Result.{err_from_is_err_and}
use Rattle.wire_frame.specs.Parts.{Stands}
use Rattle.wire_frame.specs.Runs.{key_items, run_part}
use Rattle.wire_frame.proofs.Lending.{keys_lent, lent_stand}
use Rattle.wire_frame.proofs.Reading.{IsReading, reading_starts, reading_steps, reading_fails, reading_ends}
use Rattle.wire_frame.proofs.Readable.{keys_readable, key_stands, key_fails}
use Rattle.wire_frame.proofs.lists.keys_of.Goals as goal

pub loop-i-init : goal.loop-i-init
loop-i-init c =
    let count = c.args.count in
    let bytes = c.args.bytes.now in
    let at = c.args.at in
    let all : count ≡ count - 0 = omega arith in
    record {
      done = [];
      reading = subst (λ n. IsReading key_items 0 count bytes at [] 0 n at) all (reading_starts key_items 0 count bytes at (omega arith));
      to = omega arith;
      room = omega arith;
    }

pub returns-in_err-key-clause-bad : goal.returns-in_err-key-clause-bad
returns-in_err-key-clause-bad c =
    let p = err_from_is_err_and c.from_residual.result c.from_residual.ensures.1 in
    let count = c.args.count in
    let i = c.loop-i.i in
    let left = count - 1 - i in
    rw (p.1, p.2) (
    reading_fails key_items 0 count c.args.bytes.now c.args.at c.loop-i.invariant.done c.loop-i.least left (count - i) c.loop-i.to c.in_err-key.field-0.0
    keys_readable c.loop-i.invariant.reading (omega arith) (key_fails c.loop-i.least left (65535 - c.from.result) c.args.bytes.now c.loop-i.to c.in_err-key.field-0.0 (omega arith) c.in_err-key.ensures.bad))

pub loop-i-preserved : goal.loop-i-preserved
loop-i-preserved c =
    let count = c.args.count in
    let i = c.loop-i.i in
    let left = count - 1 - i in
    let done = c.loop-i.invariant.done in
    let key = c.in_ok-key.key in
    let stands = key_stands c.loop-i.least left (65535 - c.from.result) key c.args.bytes.now c.loop-i.to (c.loop-i.to + 2) (omega arith) c.in_ok-key.ensures.key in
    record {
      done = done ++ key ∷ [];
      reading = reading_steps key_items 0 count c.args.bytes.now c.args.at done (done ++ key ∷ []) c.loop-i.least (c.from-least.result + 1) left (count - (i + 1)) (count - i)
          c.loop-i.to (c.loop-i.to + 2) (c.loop-i.to + 2) key keys_readable c.loop-i.invariant.reading (omega arith) stands refl (omega arith) (omega arith) refl;
      to = omega arith;
      room = omega (arith, c.in_ok-key.ensures.key.good);
    }

pub returns-clause-keys : goal.returns-clause-keys
returns-clause-keys c =
    let count = c.args.count in
    let bytes = c.args.bytes.now in
    let at = c.args.at in
    let ends = reading_ends key_items 0 count bytes at c.loop-i.invariant.done c.loop-i.least (count - c.loop-i.i) c.loop-i.to c.loop-i.invariant.reading (omega arith) in
    let lent = lent_stand keys_lent count c.loop-i.invariant.done bytes at c.loop-i.to ends in
    let told = subst (λ (xs : List ℕ). Stands (run_part key_items 0 count) xs bytes at c.loop-i.to) (sym c.new.ensures) lent in
    let all : c.loop-i.to ≡ at + 2 * count = omega arith in
    subst (λ n. Stands (run_part key_items 0 count) c.new.result bytes at n) all told
