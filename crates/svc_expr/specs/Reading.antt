-- Reading tokens from left to right, as a function on lists.
use Rattle.std.specs.Prelude.{ℕ, zero, suc, ◌^◌, pos, neg_ℤ, Bool, true, false, List, [], ◌∷◌, length, Option, Some, None, nat_lt, nat_le, if◌then◌else◌}
use Rattle.svc_token.specs.declared.keyword.Keyword.{Keyword}
use Rattle.svc_token.specs.declared.keyword.Keyword.TheVariants as keyword
use Rattle.svc_token.specs.declared.token.Token.{Token}
use Rattle.svc_token.specs.declared.token.Token.TheVariants.{Keyword as Word, Name, Number, Quoted, Open, Close, Minus, Dash}
use Rattle.svc_expr.specs.declared.expr.Op.{Op}
use Rattle.svc_expr.specs.declared.level.Level.{Level}
use Rattle.svc_expr.specs.declared.level.Level.TheVariants.{Whole, Disjunction, Conjunction, Denial, Comparison, Sum, Product, Unary, Operand}
use Rattle.svc_expr.specs.declared.level.Form.{Form}
use Rattle.svc_expr.specs.declared.level.Form.TheVariants as form
use Rattle.svc_expr.specs.declared.level.Aggregate.{Aggregate}
use Rattle.svc_expr.specs.Quoted.{quoted_meaning}
use Rattle.svc_expr.specs.Tree.{Tree, number, words, given, pair, choice}
use Rattle.svc_expr.specs.Grammar.{joins, formed, aggregated, call_of, aggregate_of, name_index}

-- a tree, or None in place of one that is too large
abbrev pub Part : Type 0
Part = Option Tree

-- what was read and what is left, or None where nothing is read
abbrev pub Read : Type 0
Read = Option (Part × List Token)

infixl 10 ◌>>=◌
abbrev pub ◌>>=◌ : Read → (Part × List Token → Read) → Read
(Some x) >>= f = f x
None >>= f = None

-- the rest behind a bracket that has to stand here
abbrev pub after_close : Part → List Token → Read
after_close x (Close ∷ rest) = Some (x, rest)
after_close x ts = None

-- what is read one level of the text further in, and whether there is one
pub record Inner : Type 0 where
  pub room : Bool
  pub enter : Level → List Token → Read

-- what comes after an operator, or what there is without one
abbrev pub with_op : Option Op → Read → (Op → Read) → Read
with_op None x f = x
with_op (Some op) x f = f op

-- keep says which trees are kept: all of them, or those within the limits
module _ (keep : Tree → Part) where
  abbrev pub formed_part : Form → Part → Part
  formed_part form (Some a) = keep (formed form a)
  formed_part form None = None

  abbrev pub pair_part : Op → Part → Part → Part
  pair_part op (Some a) (Some b) = keep (pair op a b)
  pair_part op a b = None

  abbrev pub choice_part : Part → Part → Part → Part
  choice_part (Some c) (Some a) (Some b) = keep (choice c a b)
  choice_part c a b = None

  -- a quoted text, where it means one
  abbrev pub words_at : Option (List ℕ) → List Token → Read
  words_at (Some text) rest = Some (keep (words text), rest)
  words_at None rest = None

  -- a number that `-` makes negative
  abbrev pub negative_at : List Token → Read
  negative_at (Number n ∷ rest) = if nat_le n (2 ^ 63) then Some (keep (number (neg_ℤ (pos n))), rest) else None
  negative_at ts = None

  -- a call over the members behind its bracket, which is a level of the text
  abbrev pub aggregate_at : Bool → Option Aggregate → List Token → Read
  aggregate_at true (Some a) (Close ∷ rest) = Some (keep (aggregated a), rest)
  aggregate_at room a ts = None

  -- what a name stands for: its place among the names
  abbrev pub naming : List (List ℕ) → List ℕ → Part
  naming names name = keep (given (name_index names name))

-- named says what a name stands for
module _ (keep : Tree → Part) (named : List ℕ → Part) where
  -- a call of one operand, or over the members, behind its bracket
  abbrev pub called_at : Inner → Option Form → Option Aggregate → List Token → Read
  called_at sub (Some form) a ts = sub.enter Whole ts >>= λ x. after_close (formed_part keep form x.0) x.1
  called_at sub None a ts = aggregate_at keep sub.room a ts

  -- a call behind the keyword that names it
  abbrev pub call_at : Inner → Keyword → List Token → Read
  call_at sub word (Open ∷ ts) = called_at sub (call_of word) (aggregate_of word) ts
  call_at sub word ts = None

  unfoldable pub operand_at : Inner → List Token → Read
  operand_at sub (Number n ∷ rest) = if nat_lt n (2 ^ 63) then Some (keep (number (pos n)), rest) else None
  operand_at sub (Dash ∷ ts) = negative_at keep ts
  operand_at sub (Quoted raw ∷ rest) = words_at keep (quoted_meaning raw) rest
  operand_at sub (Name name ∷ rest) = Some (named name, rest)
  operand_at sub (Open ∷ ts) = sub.enter Whole ts >>= λ x. after_close x.0 x.1
  operand_at sub (Word word ∷ ts) = call_at sub word ts
  operand_at sub ts = None

  unfoldable pub unary_at : Inner → List Token → Read
  unary_at sub (Minus ∷ ts) = sub.enter Unary ts >>= λ x. Some (formed_part keep form.Neg x.0, x.1)
  unary_at sub ts = operand_at sub ts

  -- goes on from the left, over n operators at most
  unfoldable pub chain : (List Token → Read) → Level → ℕ → Part → List Token → Read
  chain next L zero x ts = Some (x, ts)
  chain next L (suc n) x [] = Some (x, [])
  chain next L (suc n) x (t ∷ ts) = with_op (joins L t) (Some (x, t ∷ ts)) (λ op. next ts >>= λ y. chain next L n (pair_part keep op x y.0) y.1)

  abbrev pub chained : (List Token → Read) → Level → List Token → Read
  chained next L ts = next ts >>= λ x. chain next L (length x.1) x.0 x.1

  abbrev pub product_at : Inner → List Token → Read
  product_at sub = chained (unary_at sub) Product

  abbrev pub sum_at : Inner → List Token → Read
  sum_at sub = chained (product_at sub) Sum

  unfoldable pub compared_at : Inner → Part → List Token → Read
  compared_at sub x [] = Some (x, [])
  compared_at sub x (t ∷ ts) = with_op (joins Comparison t) (Some (x, t ∷ ts)) (λ op. sum_at sub ts >>= λ y. Some (pair_part keep op x y.0, y.1))

  abbrev pub comparison_at : Inner → List Token → Read
  comparison_at sub ts = sum_at sub ts >>= λ x. compared_at sub x.0 x.1

  unfoldable pub denial_at : Inner → List Token → Read
  denial_at sub (Word keyword.Not ∷ ts) = sub.enter Denial ts >>= λ x. Some (formed_part keep form.Not x.0, x.1)
  denial_at sub ts = comparison_at sub ts

  abbrev pub conjunction_at : Inner → List Token → Read
  conjunction_at sub = chained (denial_at sub) Conjunction

  abbrev pub disjunction_at : Inner → List Token → Read
  disjunction_at sub = chained (conjunction_at sub) Disjunction

  abbrev pub else_at : Inner → Part → Part → List Token → Read
  else_at sub c a (Word keyword.Else ∷ ts) = sub.enter Whole ts >>= λ b. Some (choice_part keep c a b.0, b.1)
  else_at sub c a ts = None

  abbrev pub then_at : Inner → Part → List Token → Read
  then_at sub c (Word keyword.Then ∷ ts) = sub.enter Whole ts >>= λ a. else_at sub c a.0 a.1
  then_at sub c ts = None

  unfoldable pub whole_at : Inner → List Token → Read
  whole_at sub (Word keyword.If ∷ ts) = sub.enter Whole ts >>= λ c. then_at sub c.0 c.1
  whole_at sub ts = disjunction_at sub ts

  abbrev pub level_at : Inner → Level → List Token → Read
  level_at sub Whole = whole_at sub
  level_at sub Disjunction = disjunction_at sub
  level_at sub Conjunction = conjunction_at sub
  level_at sub Denial = denial_at sub
  level_at sub Comparison = comparison_at sub
  level_at sub Sum = sum_at sub
  level_at sub Product = product_at sub
  level_at sub Unary = unary_at sub
  level_at sub Operand = operand_at sub

  -- with d levels of the text left to enter
  unfoldable pub inner : ℕ → Inner
  inner zero = record { room = false; enter = λ L ts. None }
  inner (suc d) = record { room = true; enter = λ L ts. level_at (inner d) L ts }

-- all tokens were read
abbrev pub all_read : Read → Option Part
all_read (Some (x, [])) = Some x
all_read r = None
