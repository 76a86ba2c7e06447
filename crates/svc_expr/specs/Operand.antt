-- The values behind what is lent.
use Rattle.svc_value.specs.declared.value.Value.{Value}
use Rattle.svc_value.specs.declared.value.Value.TheVariants.{Int, Words, Bad}
use Rattle.svc_expr.specs.declared.operand.Operand.{Operand}
use Rattle.svc_expr.specs.declared.operand.Operand.TheVariants.{Made, Lent}
use Rattle.svc_expr.specs.declared.operand.View.{View}
use Rattle.svc_expr.specs.declared.operand.View.TheVariants as view

-- the value of an operand
abbrev pub value_of : Operand → Value
value_of (Made value) = value
value_of (Lent text) = Words text.now

-- the value that is looked at
abbrev pub value_seen : View → Value
value_seen (view.Int number) = Int number
value_seen (view.Text text) = Words text.now
value_seen (view.Bad fault) = Bad fault
