-- What a line says: the grammar as a relation between a line and its statement.
use Rattle.std.specs.Prelude.{◌≡◌, ℕ, ◌<◌, ◌≤◌, ◌^◌, pos, neg_ℤ, Bool, true, false, ◌==◌, if◌then◌else◌, List, [], ◌∷◌, ◌++◌}
use Rattle.svc_expr.specs.declared.expr.Expr.{Expr}
use Rattle.svc_expr.specs.Grammar.{IsExpression}
use Rattle.svc_expr.specs.Tree.{Tree, tree_of, IsSmall}
use Rattle.svc_token.specs.declared.keyword.Keyword.{Keyword as AnyKeyword}
use Rattle.svc_token.specs.declared.keyword.Keyword.TheVariants as keyword
use Rattle.svc_token.specs.declared.token.Token.{Token}
use Rattle.svc_token.specs.declared.token.Token.TheVariants.{Keyword, Name, Number, Quoted, Colon, Comma, Equals, Dash}
use Rattle.svc_token.specs.Cutting.{is_blank, Cuts}
use Rattle.svc_value.specs.declared.value.Value.{Value}
use Rattle.svc_value.specs.declared.value.Value.TheVariants.{Int, Words}
use Rattle.svc_value.specs.declared.value.ValueType.{ValueType}
use Rattle.svc_value.specs.declared.value.ValueType.TheVariants as type
use Rattle.svc_value.specs.Literal.{IsLiteral as IsLiteralText}
use Rattle.document_reading.specs.declared.statement.Body.{Body}
use Rattle.document_reading.specs.declared.statement.Body.TheVariants.{Formula, TooLarge}
use Rattle.document_reading.specs.declared.statement.Statement.{Statement}
use Rattle.document_reading.specs.declared.statement.Statement.TheVariants.{Silence, Input, Derived, Set, Add, Drop, Define, Settle, Do, Take, Turn}

-- whether nothing but blanks stands in a line, or nothing but blanks before a `#`
abbrev pub is_silent : List ℕ → Bool
is_silent [] = true
is_silent (b ∷ line) = if is_blank b then is_silent line else b == 35

-- a number, or `-` directly before one, whose value has 64 bits; or a quoted text
pub data IsLiteral : List Token → Value → Type 0 where
  whole : {n : ℕ} → n < 2 ^ 63 → IsLiteral (Number n ∷ []) (Int (pos n))
  negative : {n : ℕ} → n ≤ 2 ^ 63 → IsLiteral (Dash ∷ Number n ∷ []) (Int (neg_ℤ (pos n)))
  quoted : {raw text : List ℕ} → IsLiteralText raw (Words text) → IsLiteral (Quoted raw ∷ []) (Words text)

-- `int` or `text`
pub data IsType : AnyKeyword → ValueType → Type 0 where
  int : IsType keyword.Int type.Int
  text : IsType keyword.Text type.Text

-- one or more names, with commas between
pub data AreMembers : List Token → List (List ℕ) → Type 0 where
  last : {name : List ℕ} → AreMembers (Name name ∷ []) (name ∷ [])
  more : {name : List ℕ} {tokens : List Token} {names : List (List ℕ)} → AreMembers tokens names → AreMembers (Name name ∷ Comma ∷ tokens) (name ∷ names)

-- an expression, with these members
pub data IsOver (members : List (List ℕ)) : List Token → Body → Type 0 where
  small : {tokens : List Token} {expr : Expr} {names : List (List ℕ)} → IsExpression tokens (tree_of expr) names → IsSmall (tree_of expr)
      → IsOver members tokens (Formula (record { expr = expr; names = names; members = members }))
  large : {tokens : List Token} {e : Tree} {names : List (List ℕ)} → IsExpression tokens e names → (IsSmall e → ⊥) → IsOver members tokens TooLarge

-- an expression alone, or with its members behind `over`
pub data IsBody : List Token → Body → Type 0 where
  alone : {tokens : List Token} {body : Body} → IsOver [] tokens body → IsBody tokens body
  over : {tokens behind : List Token} {members : List (List ℕ)} {body : Body} → IsOver members tokens body → AreMembers behind members
      → IsBody (tokens ++ Keyword keyword.Over ∷ behind) body

-- the tokens of a line say this
pub data Means : List Token → Statement → Type 0 where
  input : {name : List ℕ} {word : AnyKeyword} {ty : ValueType} {tokens : List Token} {value : Value} → IsType word ty → IsLiteral tokens value
      → Means (Keyword keyword.Input ∷ Name name ∷ Colon ∷ Keyword word ∷ Equals ∷ tokens) (Input name ty value)
  derived : {name : List ℕ} {word : AnyKeyword} {ty : ValueType} {rank : ℕ} {tokens : List Token} {body : Body} → IsType word ty → IsBody tokens body
      → Means (Keyword keyword.Derived ∷ Name name ∷ Colon ∷ Keyword word ∷ Keyword keyword.Rank ∷ Number rank ∷ Equals ∷ tokens) (Derived name ty rank body)
  set : {name : List ℕ} {tokens : List Token} {value : Value} → IsLiteral tokens value
      → Means (Keyword keyword.Set ∷ Name name ∷ Equals ∷ tokens) (Set name value)
  add : {reader member : List ℕ} → Means (Keyword keyword.Add ∷ Name reader ∷ Name member ∷ []) (Add reader member)
  drop : {reader member : List ℕ} → Means (Keyword keyword.Drop ∷ Name reader ∷ Name member ∷ []) (Drop reader member)
  define : {name : List ℕ} {tokens : List Token} {body : Body} → IsBody tokens body
      → Means (Keyword keyword.Define ∷ Name name ∷ Equals ∷ tokens) (Define name body)
  settle : Means (Keyword keyword.Settle ∷ []) Settle
  do_next : {name : List ℕ} → Means (Keyword keyword.Do ∷ Name name ∷ []) (Do name)
  take : {reader sender : List ℕ} → Means (Keyword keyword.Take ∷ Name reader ∷ Keyword keyword.From ∷ Name sender ∷ []) (Take reader sender)
  turn : {name : List ℕ} → Means (Keyword keyword.Turn ∷ Name name ∷ []) (Turn name)

-- a line says this
pub data Says : List ℕ → Statement → Type 0 where
  silent : {line : List ℕ} → is_silent line ≡ true → Says line Silence
  spoken : {line : List ℕ} {tokens : List Token} {statement : Statement} → is_silent line ≡ false → Cuts line tokens → Means tokens statement
      → Says line statement
