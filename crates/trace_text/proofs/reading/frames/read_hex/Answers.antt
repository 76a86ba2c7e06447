use Rattle.std.proofs.Common.{arith, rules, ◌<◌, length}
use Rattle.trace_text.proofs.Hexes.{no_bytes, odd_digits}
use Rattle.trace_text.proofs.reading.frames.read_hex.Goals as goal

pub returns-in_default-byte_of : goal.returns-in_default-byte_of
returns-in_default-byte_of c = no_bytes c.args.digits.now c.loop-rest.bytes.items c.loop-rest.rest.now c.loop-rest.invariant.1 (omega (arith, c.in-len2-up.len_at_least)) c.in_default-byte_of.ensures

pub returns-then-not-is_empty : goal.returns-then-not-is_empty
returns-then-not-is_empty c =
    let some : 0 < length c.loop-rest.rest.now = search rules in
    odd_digits c.args.digits.now c.loop-rest.bytes.items c.loop-rest.rest.now c.loop-rest.invariant.1 (omega (arith, c.in_default.len_below)) some
