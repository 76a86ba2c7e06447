use Rattle.std.specs.Int.{w32, from_be_bytes}
use Rattle.wire_frame.specs.Frames.{u32_bytes}
use Rattle.std.proofs.Common.{sym, ◌∙◌, ◌++◌, ◌+◌, ℕ, List, length, drop, ap, refl, arith}
use Rattle.std.proofs.lemmas.List.{take_rest, drop-drop}
use Rattle.wire_frame.proofs.Digits.{AreBytes, bytes_from, clock_short, clock_zero, clock_next}
use Rattle.wire_frame.proofs.numbers.read_clock.Goals as goal

pub returns-in_default-clause-bad : goal.returns-in_default-clause-bad
returns-in_default-clause-bad c =
    let bytes = c.args.bytes.now in
    let at = c.args.at in
    let fits : AreBytes bytes = λ i. omega (arith, c.type_inv.bytes i) in
    let same = take_rest bytes at in
    (length (drop at bytes), ap (λ (rest : List ℕ). at + length rest) same, clock_short c.args.field (drop at bytes) (bytes_from bytes at fits) (omega (arith, ap length same)))

pub returns-in-0-clause-bad : goal.returns-in-0-clause-bad
returns-in-0-clause-bad c =
    let bytes = c.args.bytes.now in
    let at = c.args.at in
    let fits : AreBytes bytes = λ i. omega (arith, c.type_inv.bytes i) in
    let same = take_rest bytes at in (
      3,
      refl,
      clock_zero c.args.field (drop at bytes) (bytes_from bytes at fits) (omega (arith, ap length same))
          (sym c.in-0.is ∙ c.from_be_bytes.ensures ∙ ap (λ (bs : List ℕ). from_be_bytes w32 bs) same),
    )

pub returns-in_default-from_be_bytes-clause-clock : goal.returns-in_default-from_be_bytes-clause-clock
returns-in_default-from_be_bytes-clause-clock c =
    let bytes = c.args.bytes.now in
    let at = c.args.at in
    let fits : AreBytes bytes = λ i. omega (arith, c.type_inv.bytes i) in
    let same = take_rest bytes at in
    let next = clock_next c.args.field (drop at bytes) c.from_be_bytes.result (bytes_from bytes at fits) (omega (arith, ap length same))
    (c.from_be_bytes.ensures ∙ ap (λ (bs : List ℕ). from_be_bytes w32 bs) same) (omega arith) in
    record { good = next.good; end = refl; within = omega (arith, ap length same); is = next.is ∙ ap (λ rest. u32_bytes c.from_be_bytes.result ++ rest) (drop-drop 4 at bytes) }
