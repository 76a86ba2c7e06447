-- Numbers as they are printed.
use Rattle.std.specs.Prelude.{ℕ, pos, List}
use Rattle.svc_value.specs.Printed.{printed_value}
use Rattle.svc_value.specs.declared.value.Value.TheVariants.{Int}

-- a number in decimal digits
abbrev pub number_text : ℕ → List ℕ
number_text number = printed_value (Int (pos number))
