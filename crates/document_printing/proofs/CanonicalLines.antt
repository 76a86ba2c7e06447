-- The lines of a canonical document are those that it is made of, and each is a line that says its change or step line.
use Rattle.std.proofs.Common.{◌≡◌, ℕ, suc, ◌<◌, ◌≤◌, Bool, true, false, List, [], ◌∷◌, ◌++◌, length, map, flat_map, All, refl, ap, ◌∙◌, arith, append_assoc, codes, ne_eqb, pos}
use Rattle.std.specs.Prelude.{◌==◌}
use Rattle.svc_expr.specs.declared.expr.Op.{Op}
use Rattle.svc_expr.specs.declared.expr.Op.TheVariants as op
use Rattle.svc_expr.specs.Tree.{Tree, number, words, given, negated, denied, pair, choice, len_of, number_of, text_of, sum_of_members, count_of_members, least_member, greatest_member, tree_of}
use Rattle.svc_expr.specs.Canonical.{sign_text, has_bracket, bracketed, name_at, canonical_text as expression_text, IsWritable}
use Rattle.svc_graph.specs.declared.definition.Change.{Change}
use Rattle.svc_graph.specs.declared.definition.Change.TheVariants as change
use Rattle.svc_graph.specs.declared.definition.Definition.TheVariants as definition
use Rattle.svc_graph.specs.declared.definition.Formula.{Formula}
use Rattle.svc_token.specs.Word.{IsName}
use Rattle.svc_value.specs.declared.value.Value.{Value}
use Rattle.svc_value.specs.declared.value.Value.TheVariants.{Int, Words, Bad}
use Rattle.svc_value.specs.declared.value.ValueType.{ValueType}
use Rattle.svc_value.specs.declared.value.ValueType.TheVariants as type
use Rattle.svc_value.specs.Printed.{printed_value}
use Rattle.svc_plan.specs.declared.plan.ServiceLine.{ServiceLine}
use Rattle.svc_plan.specs.declared.plan.StepEvent.{StepEvent}
use Rattle.svc_plan.specs.declared.plan.StepEvent.TheVariants as event
use Rattle.document_reading.specs.declared.statement.Statement.TheVariants as say
use Rattle.document_reading.specs.Document.{lines_of, before_first_line, IsLine}
use Rattle.document_printing.specs.Canonical.{service_at, name_of, type_text, declared_text, over_text, formula_text, change_text, step_text, with_line_ends}
use Rattle.document_printing.proofs.CanonicalBytes.{HasNoEnd, IsInner, inner-append, inner-nil, by_test, quoted_inner, number_inner, name_inner}
use Rattle.document_printing.proofs.CanonicalFormulas.{each_name, written_with}
use Rattle.document_printing.proofs.CanonicalSays.{said_change, said_step, HasText, IsWhole, IsSayable, IsStepSayable, change_says, step_says, settle_says}

-- ---- expressions

sign_inner : (o : Op) → IsInner (sign_text o)
sign_inner op.Add = by_test (sign_text op.Add) refl
sign_inner op.Sub = by_test (sign_text op.Sub) refl
sign_inner op.Mul = by_test (sign_text op.Mul) refl
sign_inner op.Div = by_test (sign_text op.Div) refl
sign_inner op.Rem = by_test (sign_text op.Rem) refl
sign_inner op.Join = by_test (sign_text op.Join) refl
sign_inner op.Eq = by_test (sign_text op.Eq) refl
sign_inner op.Ne = by_test (sign_text op.Ne) refl
sign_inner op.Lt = by_test (sign_text op.Lt) refl
sign_inner op.Le = by_test (sign_text op.Le) refl
sign_inner op.Gt = by_test (sign_text op.Gt) refl
sign_inner op.Ge = by_test (sign_text op.Ge) refl
sign_inner op.And = by_test (sign_text op.And) refl
sign_inner op.Or = by_test (sign_text op.Or) refl

bracketed_inner : (b : Bool) (text : List ℕ) → IsInner text → IsInner (bracketed b text)
bracketed_inner true text h = h
bracketed_inner false text h = inner-append (inner-append (by_test (codes "(") refl) h) (by_test (codes ")") refl)

called_inner : (word : List ℕ) {text : List ℕ} → IsInner word → IsInner text → IsInner (word ++ text ++ codes ")")
called_inner word w h = inner-append (inner-append w h) (by_test (codes ")") refl)

module _ (names : List (List ℕ)) (each : (k : ℕ) → k < length names → IsName (name_at names k)) where
  expression_inner : (e : Tree) → IsWritable names e → IsInner (expression_text names e)
  unfolding expression_text
  expression_inner (number z) w = number_inner z
  expression_inner (words text) w = quoted_inner text w.1
  expression_inner (given k) w = name_inner (name_at names k) (each k w)
  expression_inner (negated a) w = inner-append (by_test (codes "-") refl) (bracketed_inner (has_bracket a) _ (expression_inner a w))
  expression_inner (denied a) w = called_inner (codes "(not ") (by_test (codes "(not ") refl) (bracketed_inner (has_bracket a) _ (expression_inner a w))
  expression_inner (pair o a b) w =
      inner-append (inner-append (inner-append (inner-append (by_test (codes "(") refl) (expression_inner a w.0)) (sign_inner o)) (expression_inner b w.1)) (by_test (codes ")") refl)
  expression_inner (choice c a b) w =
      inner-append (inner-append (inner-append (inner-append (inner-append (inner-append (by_test (codes "(if ") refl) (expression_inner c w.0)) (by_test (codes " then ") refl)) (expression_inner a w.1)) (by_test (codes " else ") refl)) (expression_inner b w.2)) (by_test (codes ")") refl)
  expression_inner (len_of a) w = called_inner (codes "len(") (by_test (codes "len(") refl) (expression_inner a w)
  expression_inner (number_of a) w = called_inner (codes "number(") (by_test (codes "number(") refl) (expression_inner a w)
  expression_inner (text_of a) w = called_inner (codes "text(") (by_test (codes "text(") refl) (expression_inner a w)
  expression_inner sum_of_members w = by_test (codes "sum()") refl
  expression_inner count_of_members w = by_test (codes "count()") refl
  expression_inner least_member w = by_test (codes "min()") refl
  expression_inner greatest_member w = by_test (codes "max()") refl

-- ---- the parts of lines

others_inner : (others : List (List ℕ)) → All IsName others → IsInner (flat_map (λ other. codes ", " ++ other) others)
others_inner [] are = inner-nil
others_inner (other ∷ others) are =
    inner-append (inner-append (by_test (codes ", ") refl) (name_inner other (are 0 [] (omega arith)))) (others_inner others (λ k d less. are (suc k) d (omega (arith, less))))

over_inner : (members : List (List ℕ)) → All IsName members → IsInner (over_text members)
over_inner [] are = inner-nil
over_inner (member ∷ members) are =
    inner-append (inner-append (by_test (codes " over ") refl) (name_inner member (are 0 [] (omega arith)))) (others_inner members (λ k d less. are (suc k) d (omega (arith, less))))

type_inner : (ty : ValueType) → IsInner (type_text ty)
type_inner type.Int = by_test (codes "int") refl
type_inner type.Text = by_test (codes "text") refl

value_inner : (value : Value) → IsWhole value → IsInner (printed_value value)
value_inner (Int z) can = number_inner z
value_inner (Words text) can = quoted_inner text can.within.1
value_inner (Bad fault) can = absurd can.proper

declared_inner : (line : ServiceLine) → IsName line.name → IsInner (declared_text line)
declared_inner line name = inner-append (inner-append (name_inner line.name name) (by_test (codes " : ") refl)) (type_inner line.ty)

module _ (services : List ServiceLine) where
  formula_inner : (formula : Formula) → HasText services formula → IsInner (formula_text services formula)
  formula_inner formula can =
      let names = map (name_of services) formula.fixed in
      inner-append (expression_inner names (each_name names (tree_of formula.expr) can.readable) (tree_of formula.expr) (written_with names (tree_of formula.expr) can.readable))
      (over_inner (map (name_of services) formula.members) can.members)

  change_inner : (n : ℕ) (c : Change) → IsName (name_of services n) → IsSayable services n c → IsInner (change_text services n c)
  change_inner n (change.Birth (definition.Input first)) name can =
      inner-append (inner-append (inner-append (by_test (codes "input ") refl) (declared_inner (service_at services n) name)) (by_test (codes " = ") refl)) (value_inner first can)
  change_inner n (change.Birth (definition.Derived formula)) name can =
      inner-append (inner-append (inner-append (inner-append (inner-append (by_test (codes "derived ") refl) (declared_inner (service_at services n) name)) (by_test (codes " rank ") refl)) (number_inner (pos (service_at services n).rank))) (by_test (codes " = ") refl)) (formula_inner formula can.0)
  change_inner n (change.Set next) name can = inner-append (inner-append (inner-append (by_test (codes "set ") refl) (name_inner _ name)) (by_test (codes " = ") refl)) (value_inner next can)
  change_inner n (change.Add member) name can = inner-append (inner-append (inner-append (by_test (codes "add ") refl) (name_inner _ name)) (by_test (codes " ") refl)) (name_inner _ can)
  change_inner n (change.Drop member) name can = inner-append (inner-append (inner-append (by_test (codes "drop ") refl) (name_inner _ name)) (by_test (codes " ") refl)) (name_inner _ can)
  change_inner n (change.Define formula) name can = inner-append (inner-append (inner-append (by_test (codes "define ") refl) (name_inner _ name)) (by_test (codes " = ") refl)) (formula_inner formula can)

  step_inner : (e : StepEvent) → IsStepSayable services e → IsInner (step_text services e)
  step_inner (event.Do n) name = inner-append (by_test (codes "do ") refl) (name_inner _ name)
  step_inner (event.Take reader sender) names = inner-append (inner-append (inner-append (by_test (codes "take ") refl) (name_inner _ names.0)) (by_test (codes " from ") refl)) (name_inner _ names.1)
  step_inner (event.Turn n) name = inner-append (by_test (codes "turn ") refl) (name_inner _ name)

  -- ---- lines

  pub change_line : (n : ℕ) (c : Change) → IsName (name_of services n) → IsSayable services n c → length (change_text services n c) ≤ 4096
      → IsLine (change_text services n c) (said_change services n c) × HasNoEnd (change_text services n c)
  change_line n c name can short =
      let inner = change_inner n c name can in
      (record { short = short; text = inner.utf8; says = change_says services n c name can }, inner.no_end)

  pub step_line : (e : StepEvent) → IsStepSayable services e → length (step_text services e) ≤ 4096
      → IsLine (step_text services e) (said_step services e) × HasNoEnd (step_text services e)
  step_line e can short =
      let inner = step_inner e can in
      (record { short = short; text = inner.utf8; says = step_says services e can }, inner.no_end)

pub settle_line : IsLine (codes "settle") say.Settle × HasNoEnd (codes "settle")
settle_line =
    let inner = by_test (codes "settle") refl in
    (record { short = omega arith; text = inner.utf8; says = settle_says }, inner.no_end)

-- ---- lines found again

pub one_line : (line rest : List ℕ) → HasNoEnd line → lines_of (line ++ 10 ∷ rest) ≡ line ∷ lines_of rest
one_line [] rest p = refl
one_line (b ∷ line) rest p =
    let other : (b == 10) ≡ false = ne_eqb b 10 p.0 in
    rw other (ap (before_first_line b) (one_line line rest p.1))

-- none of the lines has an LF
abbrev pub HaveNoEnd : List (List ℕ) → Type 0
HaveNoEnd [] = Unit {0}
HaveNoEnd (line ∷ lines) = HasNoEnd line × HaveNoEnd lines

pub lines_again : (lines : List (List ℕ)) → HaveNoEnd lines → lines_of (with_line_ends lines) ≡ lines
lines_again [] p = refl
lines_again (line ∷ lines) p = ap lines_of (append_assoc line (codes "\n") (with_line_ends lines)) ∙ one_line line (with_line_ends lines) p.0 ∙ ap (λ ls. line ∷ ls) (lines_again lines p.1)
