-- Each line of a canonical document says its change or step line.
use Rattle.std.proofs.Common.{◌≡◌, ℕ, ◌<◌, ◌≤◌, ◌^◌, List, [], ◌∷◌, ◌++◌, map, All, refl, sym, subst, arith, append_assoc, codes, pos}
use Rattle.svc_expr.specs.Canonical.{canonical_text as expression_text}
use Rattle.svc_expr.specs.Tree.{number, tree_of}
use Rattle.svc_expr.proofs.Spelled.{canon}
use Rattle.svc_graph.specs.Accepting.{IsProper}
use Rattle.svc_graph.specs.declared.definition.Change.{Change}
use Rattle.svc_graph.specs.declared.definition.Change.TheVariants as change
use Rattle.svc_graph.specs.declared.definition.Definition.TheVariants as definition
use Rattle.svc_graph.specs.declared.definition.Formula.{Formula}
use Rattle.svc_token.specs.declared.token.Token.{Token}
use Rattle.svc_token.specs.declared.token.Token.TheVariants.{Number}
use Rattle.svc_token.specs.Cutting.{Cuts, blank}
use Rattle.svc_token.specs.Word.{IsName}
use Rattle.svc_value.specs.declared.value.Value.{Value}
use Rattle.svc_value.specs.declared.value.Value.TheVariants.{Int}
use Rattle.svc_value.specs.Layout.{IsWithin}
use Rattle.svc_value.specs.Printed.{printed_value}
use Rattle.svc_plan.specs.declared.plan.ServiceLine.{ServiceLine}
use Rattle.svc_plan.specs.declared.plan.StepEvent.{StepEvent}
use Rattle.svc_plan.specs.declared.plan.StepEvent.TheVariants as event
use Rattle.document_reading.specs.declared.statement.Body.{Body}
use Rattle.document_reading.specs.declared.statement.Statement.{Statement}
use Rattle.document_reading.specs.declared.statement.Statement.TheVariants as say
use Rattle.document_reading.specs.Grammar.{Says, spoken}
use Rattle.document_reading.specs.Grammar.{input, derived, set, add, drop, define, settle, do_next, take, turn}
use Rattle.document_printing.specs.Canonical.{service_at, name_of, type_text, formula_text, change_text, step_text}
use Rattle.document_printing.proofs.CanonicalCuts.{input_word, derived_word, set_word, add_word, drop_word, define_word, do_word, take_word, turn_word, settle_word, from_word, rank_word, equals_mark, colon_mark, type_is, type_cut, name_cut, name_at_end, tree_cut}
use Rattle.document_printing.proofs.CanonicalFormulas.{IsReadable, body_of, formula_said}
use Rattle.document_printing.proofs.CanonicalLiterals.{value_said}

-- ---- what the lines say

-- the formula, by names
abbrev pub said_formula : List ServiceLine → Formula → Body
said_formula services formula = body_of (map (name_of services) formula.fixed) formula.expr (map (name_of services) formula.members)

-- the change, by names
abbrev pub said_change : List ServiceLine → ℕ → Change → Statement
said_change services n (change.Birth (definition.Input first)) = say.Input (name_of services n) (service_at services n).ty first
said_change services n (change.Birth (definition.Derived formula)) =
    say.Derived (name_of services n) (service_at services n).ty (service_at services n).rank (said_formula services formula)
said_change services n (change.Set next) = say.Set (name_of services n) next
said_change services n (change.Add member) = say.Add (name_of services n) (name_of services member)
said_change services n (change.Drop member) = say.Drop (name_of services n) (name_of services member)
said_change services n (change.Define formula) = say.Define (name_of services n) (said_formula services formula)

-- the event, by names
abbrev pub said_step : List ServiceLine → StepEvent → Statement
said_step services (event.Do n) = say.Do (name_of services n)
said_step services (event.Take reader sender) = say.Take (name_of services reader) (name_of services sender)
said_step services (event.Turn n) = say.Turn (name_of services n)

-- ---- what can be said

-- the expression is within its limits with its names in order, and each member has a name
pub record HasText (services : List ServiceLine) (formula : Formula) : Type 0 where
  pub readable : IsReadable (map (name_of services) formula.fixed) (tree_of formula.expr)
  pub members : All IsName (map (name_of services) formula.members)

-- the value is one that a literal can have
pub record IsWhole (value : Value) : Type 0 where
  pub proper : IsProper value
  pub within : IsWithin value

-- what is in the change of a service besides its name
abbrev pub IsSayable : List ServiceLine → ℕ → Change → Type 0
IsSayable services n (change.Birth (definition.Input first)) = IsWhole first
IsSayable services n (change.Birth (definition.Derived formula)) = HasText services formula × ((service_at services n).rank ≤ 1000)
IsSayable services n (change.Set next) = IsWhole next
IsSayable services n (change.Add member) = IsName (name_of services member)
IsSayable services n (change.Drop member) = IsName (name_of services member)
IsSayable services n (change.Define formula) = HasText services formula

-- the services of the event have names
abbrev pub IsStepSayable : List ServiceLine → StepEvent → Type 0
IsStepSayable services (event.Do n) = IsName (name_of services n)
IsStepSayable services (event.Take reader sender) = IsName (name_of services reader) × IsName (name_of services sender)
IsStepSayable services (event.Turn n) = IsName (name_of services n)

-- ---- lines

joined : {text parts : List ℕ} {tokens : List Token} → text ≡ parts → Cuts parts tokens → Cuts text tokens
joined {tokens = tokens} same s = subst (λ text. Cuts text tokens) (sym same) s

rank_cut : (rank : ℕ) → rank < 2 ^ 63 → (rest : List ℕ) (tokens : List Token) → Cuts (32 ∷ rest) tokens → Cuts (printed_value (Int (pos rank)) ++ 32 ∷ rest) (Number rank ∷ tokens)
unfolding canon expression_text
rank_cut rank fits rest tokens s = tree_cut [] (λ k l. absurd (omega arith)) (number (pos rank)) fits (32 ∷ rest) tokens refl s

module _ (services : List ServiceLine) where
  pub change_says : (n : ℕ) (c : Change) → IsName (name_of services n) → IsSayable services n c → Says (change_text services n c) (said_change services n c)
  change_says n (change.Birth (definition.Input first)) name can =
      let line : ServiceLine = service_at services n in
      let value = value_said first can.proper can.within in
      let text : change_text services n (change.Birth (definition.Input first)) ≡ codes "input " ++ (line.name ++ (codes " : " ++ (type_text line.ty ++ (codes " = " ++ printed_value first)))) = simp append_assoc in
      spoken refl
      (joined text (input_word (name_cut name _ refl (colon_mark (type_cut line.ty (equals_mark value.1))))))
      (input (type_is line.ty) value.2)
  change_says n (change.Birth (definition.Derived formula)) name can =
      let line : ServiceLine = service_at services n in
      let body = formula_said _ formula.expr _ can.0.readable can.0.members in
      let text : change_text services n (change.Birth (definition.Derived formula))
      ≡ codes "derived " ++ (line.name ++ (codes " : " ++ (type_text line.ty ++ (codes " rank " ++ (printed_value (Int (pos line.rank)) ++ (codes " = " ++ formula_text services formula)))))) = simp append_assoc in
      spoken refl
      (joined text (derived_word (name_cut name _ refl (colon_mark (type_cut line.ty (rank_word (rank_cut line.rank (omega (arith, can.1)) _ _ (equals_mark body.1))))))))
      (derived (type_is line.ty) body.2)
  change_says n (change.Set next) name can =
      let value = value_said next can.proper can.within in
      let text : change_text services n (change.Set next) ≡ codes "set " ++ (name_of services n ++ (codes " = " ++ printed_value next)) = simp append_assoc in
      spoken refl (joined text (set_word (name_cut name _ refl (equals_mark value.1)))) (set value.2)
  change_says n (change.Add member) name can =
      let text : change_text services n (change.Add member) ≡ codes "add " ++ (name_of services n ++ (codes " " ++ name_of services member)) = simp append_assoc in
      spoken refl (joined text (add_word (name_cut name _ refl (blank refl (name_at_end can))))) add
  change_says n (change.Drop member) name can =
      let text : change_text services n (change.Drop member) ≡ codes "drop " ++ (name_of services n ++ (codes " " ++ name_of services member)) = simp append_assoc in
      spoken refl (joined text (drop_word (name_cut name _ refl (blank refl (name_at_end can))))) drop
  change_says n (change.Define formula) name can =
      let body = formula_said _ formula.expr _ can.readable can.members in
      let text : change_text services n (change.Define formula) ≡ codes "define " ++ (name_of services n ++ (codes " = " ++ formula_text services formula)) = simp append_assoc in
      spoken refl (joined text (define_word (name_cut name _ refl (equals_mark body.1)))) (define body.2)

  pub step_says : (e : StepEvent) → IsStepSayable services e → Says (step_text services e) (said_step services e)
  step_says (event.Do n) name = spoken refl (do_word (name_at_end name)) do_next
  step_says (event.Take reader sender) names =
      let text : step_text services (event.Take reader sender) ≡ codes "take " ++ (name_of services reader ++ (codes " from " ++ name_of services sender)) = simp append_assoc in
      spoken refl (joined text (take_word (name_cut names.0 _ refl (from_word (name_at_end names.1))))) take
  step_says (event.Turn n) name = spoken refl (turn_word (name_at_end name)) turn

pub settle_says : Says (codes "settle") say.Settle
settle_says = spoken refl settle_word settle
