use Rattle.std.proofs.Common.{◌≡◌, ◌+◌, ◌-◌, ◌≤◌, length, IsUtf8, chars, string_bytes}
use Rattle.std.specs.Str.Iter.{chars_rest}
use Rattle.svc_value.specs.declared.inside.Inside.TheVariants.{Open}
use Rattle.svc_value.specs.Reading.{inside_at, past, HasRoom}
use Rattle.svc_value.proofs.inside.read_quoted.Given as goal

abbrev pub invariant-loop-char : goal.invariant-loop-char
invariant-loop-char l = record {
  utf8 : IsUtf8 (chars_rest l.rest);
  place : l.at + length (chars_rest l.rest) ≡ length l.text;
  most : length (string_bytes l.words) ≤ 256;
  room : HasRoom l.inside (256 - length (string_bytes l.words));
  read : past l.at (string_bytes l.words) (inside_at l.form (chars (chars_rest l.rest)) l.inside (256 - length (string_bytes l.words))) ≡ inside_at l.form (chars l.text) Open 256;
}

abbrev pub decreases-loop-char : goal.decreases-loop-char
decreases-loop-char l = length (chars_rest l.rest)
