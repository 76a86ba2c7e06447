-- Values and their types.
use Rattle.std.specs.Prelude.{Bool, true, false, ◌≡◌}
use Rattle.svc_value.specs.declared.value.Value.{Value}
use Rattle.svc_value.specs.declared.value.Value.TheVariants.{Int, Words, Bad}
use Rattle.svc_value.specs.declared.value.ValueType.{ValueType}
use Rattle.svc_value.specs.declared.value.ValueType.TheVariants as type

-- whether a value is a fault or of this type
abbrev pub has_type : Value → ValueType → Bool
has_type (Int number) type.Int = true
has_type (Int number) type.Text = false
has_type (Words text) type.Int = false
has_type (Words text) type.Text = true
has_type (Bad fault) ty = true

-- the value is a fault or of this type
abbrev pub HasType : Value → ValueType → Type 0
HasType value ty = has_type value ty ≡ true
