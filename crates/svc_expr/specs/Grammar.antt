-- The grammar of expressions: which tokens spell which tree.
use Rattle.std.specs.Prelude.{◌≡◌, ℕ, suc, ◌<◌, ◌≤◌, ◌^◌, pos, neg_ℤ, ◌==◌, nat_lt, if◌then◌else◌, List, [], ◌∷◌, ◌++◌, length, Option, Some, None}
use Rattle.std.specs.List.{position_or_len}
use Rattle.std.specs.Str.{bytes_eq}
use Rattle.svc_token.specs.declared.keyword.Keyword.{Keyword}
use Rattle.svc_token.specs.declared.keyword.Keyword.TheVariants as keyword
use Rattle.svc_token.specs.declared.token.Token.{Token}
use Rattle.svc_token.specs.declared.token.Token.TheVariants.{Keyword as Word, Name, Number, Quoted, Equals, Open, Close, Plus, Join, Minus, Dash, Star, Slash, Percent, Less, LessOrEqual, NotEqual, Greater, GreaterOrEqual}
use Rattle.svc_token.specs.Cutting.{Cuts}
use Rattle.svc_value.specs.declared.value.Value.TheVariants.{Words}
use Rattle.svc_value.specs.Literal.{IsLiteral}
use Rattle.svc_expr.specs.declared.expr.Op.{Op}
use Rattle.svc_expr.specs.declared.expr.Op.TheVariants as op
use Rattle.svc_expr.specs.declared.level.Level.{Level}
use Rattle.svc_expr.specs.declared.level.Level.TheVariants.{Whole, Disjunction, Conjunction, Denial, Comparison, Sum, Product, Unary, Operand}
use Rattle.svc_expr.specs.declared.level.Form.{Form}
use Rattle.svc_expr.specs.declared.level.Form.TheVariants as form
use Rattle.svc_expr.specs.declared.level.Aggregate.{Aggregate}
use Rattle.svc_expr.specs.declared.level.Aggregate.TheVariants as aggregate
use Rattle.svc_expr.specs.Tree.{Tree, number, words, given, negated, denied, pair, choice, len_of, number_of, text_of, sum_of_members, count_of_members, least_member, greatest_member}
use Rattle.svc_expr.specs.declared.expression.TheConstants.{MAX_LEVELS}

-- the number of a level, from the loosest on
abbrev pub level_number : Level → ℕ
level_number Whole = 1
level_number Disjunction = 2
level_number Conjunction = 3
level_number Denial = 4
level_number Comparison = 5
level_number Sum = 6
level_number Product = 7
level_number Unary = 8
level_number Operand = 9

-- the next level; the tightest stays
abbrev pub tighter : Level → Level
tighter Whole = Disjunction
tighter Disjunction = Conjunction
tighter Conjunction = Denial
tighter Denial = Comparison
tighter Comparison = Sum
tighter Sum = Product
tighter Product = Unary
tighter Unary = Operand
tighter Operand = Operand

-- the operator that a token is behind a left side
abbrev pub operator : Token → Option Op
operator Plus = Some op.Add
operator Minus = Some op.Sub
operator Dash = Some op.Sub
operator Star = Some op.Mul
operator Slash = Some op.Div
operator Percent = Some op.Rem
operator Join = Some op.Join
operator Equals = Some op.Eq
operator NotEqual = Some op.Ne
operator Less = Some op.Lt
operator LessOrEqual = Some op.Le
operator Greater = Some op.Gt
operator GreaterOrEqual = Some op.Ge
operator (Word keyword.And) = Some op.And
operator (Word keyword.Or) = Some op.Or
operator token = None

-- the level of an operator
abbrev pub level_of : Op → Level
level_of op.Or = Disjunction
level_of op.And = Conjunction
level_of op.Add = Sum
level_of op.Sub = Sum
level_of op.Join = Sum
level_of op.Mul = Product
level_of op.Div = Product
level_of op.Rem = Product
level_of op = Comparison

-- an operator, where it is of this level
abbrev pub at_level : Level → Option Op → Option Op
at_level L None = None
at_level L (Some op) = if level_number (level_of op) == level_number L then Some op else None

-- the operator of this level that a token is
abbrev pub joins : Level → Token → Option Op
joins L token = at_level L (operator token)

-- the levels that join from the left
abbrev pub IsLeft : Level → Type 0
IsLeft Disjunction = Unit {0}
IsLeft Conjunction = Unit {0}
IsLeft Sum = Unit {0}
IsLeft Product = Unit {0}
IsLeft L = ⊥

-- the tree of a form of one operand
abbrev pub formed : Form → Tree → Tree
formed form.Neg a = negated a
formed form.Not a = denied a
formed form.Len a = len_of a
formed form.Number a = number_of a
formed form.TextOf a = text_of a

-- the tree of a form over the members
abbrev pub aggregated : Aggregate → Tree
aggregated aggregate.Sum = sum_of_members
aggregated aggregate.Count = count_of_members
aggregated aggregate.Min = least_member
aggregated aggregate.Max = greatest_member

-- the call of one operand that a keyword names
abbrev pub call_of : Keyword → Option Form
call_of keyword.Len = Some form.Len
call_of keyword.Number = Some form.Number
call_of keyword.Text = Some form.TextOf
call_of keyword = None

-- the call without operands that a keyword names
abbrev pub aggregate_of : Keyword → Option Aggregate
aggregate_of keyword.Sum = Some aggregate.Sum
aggregate_of keyword.Count = Some aggregate.Count
aggregate_of keyword.Min = Some aggregate.Min
aggregate_of keyword.Max = Some aggregate.Max
aggregate_of keyword = None

-- the place of a name among names, or their number where it is not among them
abbrev pub name_index : List (List ℕ) → List ℕ → ℕ
name_index names name = position_or_len (λ other. bytes_eq other name) names

-- the names so far, and those of a list that are not among them, each once
abbrev pub with_names : List (List ℕ) → List (List ℕ) → List (List ℕ)
with_names names [] = names
with_names names (name ∷ more) = with_names (if nat_lt (name_index names name) (length names) then names else names ++ name ∷ []) more

-- the names in a list of tokens
abbrev pub names_among : List Token → List (List ℕ)
names_among [] = []
names_among (Name name ∷ tokens) = name ∷ names_among tokens
names_among (token ∷ tokens) = names_among tokens

-- Spells names L d tokens e rest: the tokens begin with an e of level L, in which a name stands for its place among the names, with at most d levels of the text open at once, and rest is what follows it.
pub data Spells (names : List (List ℕ)) : Level → ℕ → List Token → Tree → List Token → Type 0 where
  whole_number : {d n : ℕ} {rest : List Token} → n < 2 ^ 63 → Spells names Operand d (Number n ∷ rest) (number (pos n)) rest
  negative_number : {d n : ℕ} {rest : List Token} → n ≤ 2 ^ 63 → Spells names Operand d (Dash ∷ Number n ∷ rest) (number (neg_ℤ (pos n))) rest
  quoted_text : {d : ℕ} {raw text : List ℕ} {rest : List Token} → IsLiteral raw (Words text) → Spells names Operand d (Quoted raw ∷ rest) (words text) rest
  named : {d : ℕ} {name : List ℕ} {rest : List Token} → Spells names Operand d (Name name ∷ rest) (given (name_index names name)) rest
  in_brackets : {d : ℕ} {ts rest : List Token} {e : Tree} → Spells names Whole d ts e (Close ∷ rest) → Spells names Operand (suc d) (Open ∷ ts) e rest
  call : {d : ℕ} {ts rest : List Token} {e : Tree} {word : Keyword} {form : Form} → call_of word ≡ Some form → Spells names Whole d ts e (Close ∷ rest) → Spells names Operand (suc d) (Word word ∷ Open ∷ ts) (formed form e) rest
  member_call : {d : ℕ} {rest : List Token} {word : Keyword} {a : Aggregate} → aggregate_of word ≡ Some a → Spells names Operand (suc d) (Word word ∷ Open ∷ Close ∷ rest) (aggregated a) rest
  negation : {d : ℕ} {ts rest : List Token} {e : Tree} → Spells names Unary d ts e rest → Spells names Unary (suc d) (Minus ∷ ts) (negated e) rest
  joined : {L : Level} {d : ℕ} {ts us rest : List Token} {t : Token} {op : Op} {a b : Tree} → IsLeft L → joins L t ≡ Some op → Spells names L d ts a (t ∷ us) → Spells names (tighter L) d us b rest → Spells names L d ts (pair op a b) rest
  comparison : {d : ℕ} {ts us rest : List Token} {t : Token} {op : Op} {a b : Tree} → joins Comparison t ≡ Some op → Spells names Sum d ts a (t ∷ us) → Spells names Sum d us b rest → Spells names Comparison d ts (pair op a b) rest
  denial : {d : ℕ} {ts rest : List Token} {e : Tree} → Spells names Denial d ts e rest → Spells names Denial (suc d) (Word keyword.Not ∷ ts) (denied e) rest
  if_then_else : {d : ℕ} {ts us vs rest : List Token} {c a b : Tree} → Spells names Whole d ts c (Word keyword.Then ∷ us) → Spells names Whole d us a (Word keyword.Else ∷ vs) → Spells names Whole d vs b rest → Spells names Whole (suc d) (Word keyword.If ∷ ts) (choice c a b) rest
  as_tighter : {L : Level} {d : ℕ} {ts rest : List Token} {e : Tree} → Spells names (tighter L) d ts e rest → Spells names L d ts e rest

-- the tokens are an expression with at most 64 levels of the text open at once, and these are its names in the order of first mention
abbrev pub IsExpression : List Token → Tree → List (List ℕ) → Type 0
IsExpression tokens e names = (names ≡ with_names [] (names_among tokens)) × Spells names Whole MAX_LEVELS tokens e []

-- the text is cut into tokens, and they are this expression with these names
abbrev pub IsReading : List ℕ → Tree → List (List ℕ) → Type 0
IsReading text e names = (tokens : List Token) × Cuts text tokens × IsExpression tokens e names
