use Rattle.std.proofs.Common.{◌≡◌, ◌+◌, ◌≤◌, drop}
use Rattle.svc_value.specs.Reading.{digits_at, number_at}
use Rattle.svc_value.proofs.digits.read_digits.Given as goal

abbrev pub invariant-loop-byte : goal.invariant-loop-byte
invariant-loop-byte l = record {
  place : l.at ≡ l.start + 1 + l.byte-index;
  most : l.number ≤ l.limit;
  read : digits_at l.form l.limit (drop l.byte-index l.rest) l.at l.number ≡ number_at l.form l.zero l.limit l.start l.bytes;
}
