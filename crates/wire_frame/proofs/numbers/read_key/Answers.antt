use Rattle.std.proofs.Common.{◌∙◌, ◌*◌, get_or, ◌+◌, ◌-◌, ℕ, List, length, take, drop, ap, refl, arith, inl, inr}
use Rattle.std.proofs.lemmas.List.{take_rest, get_or-drop}
use Rattle.wire_frame.proofs.Digits.{AreBytes, bytes_from, key_half, key_wrong_second}
use Rattle.wire_frame.proofs.numbers.read_key.Goals as goal
use Rattle.wire_frame.proofs.numbers.read_key.Goals.{then-key-least-via-then-key-least, then-key-least-via-else-key-least+then-most-key}

pub returns-in_default-rest-clause-bad : goal.returns-in_default-rest-clause-bad
returns-in_default-rest-clause-bad c =
    let bytes = c.args.bytes.now in
    let at = c.args.at in
    let same = take_rest bytes at in (
      1,
      refl,
      key_half c.args.least c.args.most (drop at bytes) c.from-start.result c.requires.small c.requires.some (omega (arith, ap length same))
          (c.from-start.ensures ∙ ap (λ (bs : List ℕ). get_or bs 0 0) same) (omega arith) (omega arith),
    )

pub returns-then-key-least-clause-bad : goal.returns-then-key-least-clause-bad
returns-then-key-least-clause-bad c =
    let bytes = c.args.bytes.now in
    let at = c.args.at in
    let fits : AreBytes bytes = λ i. omega (arith, c.type_inv.bytes i) in
    let same = take_rest bytes at in
    let part = take (length bytes - at) (drop at bytes) in
    let second = c.from.ensures ∙ ap (λ (bs : List ℕ). get_or bs 0 0) (take_rest part 1) ∙ get_or-drop 1 part 0 0 ∙ ap (λ (bs : List ℕ). get_or bs 1 0) same in (
      1,
      refl,
      key_wrong_second c.args.least c.args.most (drop at bytes) c.from-start.result (c.from-start.result * 256 + c.from.result) (bytes_from bytes at fits) c.requires.small c.requires.some (omega (arith, ap length same))
          (c.from-start.ensures ∙ ap (λ (bs : List ℕ). get_or bs 0 0) same)
          (ap (λ n. c.from-start.result * 256 + n) second) (omega arith) (omega arith) (elim c.then-key-least.either [ inl below ↦ inl below | inr above ↦ inr above.1 ]),
    )
