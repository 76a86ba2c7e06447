-- No expression has the word `over`.
use Rattle.std.proofs.Common.{◌≡◌, ℕ, suc, zero, List, [], ◌∷◌, Some, refl, ◌∙◌}
use Rattle.svc_token.specs.declared.keyword.Keyword.{Keyword}
use Rattle.svc_token.specs.declared.keyword.Keyword.TheVariants as keyword
use Rattle.svc_token.specs.declared.token.Token.{Token}
use Rattle.svc_token.specs.declared.token.Token.TheVariants.{Keyword as Word}
use Rattle.svc_expr.specs.declared.expr.Op.{Op}
use Rattle.svc_expr.specs.declared.level.Aggregate.{Aggregate}
use Rattle.svc_expr.specs.declared.level.Form.{Form}
use Rattle.svc_expr.specs.declared.level.Level.{Level}
use Rattle.svc_expr.specs.declared.level.Level.TheVariants.{Comparison}
use Rattle.svc_expr.specs.Tree.{Tree}
use Rattle.svc_expr.specs.Grammar.{operator, joins, call_of, aggregate_of, Spells, whole_number, negative_number, quoted_text, named, in_brackets, call, member_call, negation, joined, comparison, denial, if_then_else, as_tighter, IsExpression}
use Rattle.svc_expr.proofs.NameLemmas.{level_operator}

-- how many of the tokens are the word `over`
abbrev pub overs : List Token → ℕ
overs [] = zero
overs (Word keyword.Over ∷ tokens) = suc (overs tokens)
overs (token ∷ tokens) = overs tokens

operator_is_none : (t : Token) (op : Op) (ts : List Token) → operator t ≡ Some op → overs (t ∷ ts) ≡ overs ts
operator_is_none (Word keyword.Over) op ts h = absurd (cc)
operator_is_none t op ts h = refl

join_is_none : (L : Level) (t : Token) (op : Op) (ts : List Token) → joins L t ≡ Some op → overs (t ∷ ts) ≡ overs ts
join_is_none L t op ts h = let o = level_operator L (operator t) op h in operator_is_none t o.0 ts o.1

call_is_none : (word : Keyword) (form : Form) (ts : List Token) → call_of word ≡ Some form → overs (Word word ∷ ts) ≡ overs ts
call_is_none keyword.Over form ts h = absurd (cc)
call_is_none word form ts h = refl

member_call_is_none : (word : Keyword) (a : Aggregate) (ts : List Token) → aggregate_of word ≡ Some a → overs (Word word ∷ ts) ≡ overs ts
member_call_is_none keyword.Over a ts h = absurd (cc)
member_call_is_none word a ts h = refl

-- the front that an expression takes has none
pub same_overs : {names : List (List ℕ)} {L : Level} {d : ℕ} {ts : List Token} {e : Tree} {rest : List Token} → Spells names L d ts e rest → overs ts ≡ overs rest
same_overs (whole_number h) = refl
same_overs (negative_number h) = refl
same_overs (quoted_text h) = refl
same_overs named = refl
same_overs (in_brackets s) = same_overs s
same_overs (call {ts = ts} {word = word} {form = form} h s) = call_is_none word form _ h ∙ same_overs s
same_overs (member_call {rest = rest} {word = word} {a = a} h) = member_call_is_none word a _ h
same_overs (negation s) = same_overs s
same_overs (joined {L = L} {us = us} {t = t} {op = op} l h s u) = same_overs s ∙ join_is_none L t op us h ∙ same_overs u
same_overs (comparison {us = us} {t = t} {op = op} h s u) = same_overs s ∙ join_is_none Comparison t op us h ∙ same_overs u
same_overs (denial s) = same_overs s
same_overs (if_then_else s u v) = same_overs s ∙ same_overs u ∙ same_overs v
same_overs (as_tighter s) = same_overs s

pub no_over : (ts : List Token) (e : Tree) (names : List (List ℕ)) → IsExpression ts e names → overs ts ≡ zero
no_over ts e names s = same_overs s.1
