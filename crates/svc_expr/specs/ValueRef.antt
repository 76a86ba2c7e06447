-- What is known of a value for which no text is made.
use Rattle.std.specs.Prelude.{◌≡◌}
use Rattle.svc_value.specs.declared.value.Value.{Value}
use Rattle.svc_value.specs.declared.value.Value.TheVariants as value
use Rattle.svc_expr.specs.declared.value_ref.ValueRef.{ValueRef}
use Rattle.svc_expr.specs.declared.value_ref.ValueRef.TheVariants.{Int, Text, Bad, Unknown}

-- the value is this one, where it is known
abbrev pub Says : ValueRef → Value → Type 0
Says (Int z) x = x ≡ value.Int z
Says (Text text) x = x ≡ value.Words text.now
Says (Bad fault) x = x ≡ value.Bad fault
Says Unknown x = Unit {0}
