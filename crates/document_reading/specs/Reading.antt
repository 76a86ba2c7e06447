-- How the code reads bytes and tokens: what stands at their front, and what follows it.
use Rattle.std.specs.Prelude.{◌≡◌, ℕ, suc, ◌==◌, ◌^◌, nat_lt, nat_le, pos, neg_ℤ, Bool, true, false, not, if◌then◌else◌, List, [], ◌∷◌, length, Option, Some, None, Result, Ok, Err, option_map, option_and_then}
use Rattle.std.specs.List.{take_while}
use Rattle.svc_token.specs.declared.keyword.Keyword.{Keyword as AnyKeyword}
use Rattle.svc_token.specs.declared.keyword.Keyword.TheVariants as keyword
use Rattle.svc_token.specs.declared.token.Token.{Token}
use Rattle.svc_token.specs.declared.token.Token.TheVariants.{Keyword, Name, Number, Quoted, Colon, Comma, Equals, Dash}
use Rattle.svc_value.specs.declared.value.Value.{Value}
use Rattle.svc_value.specs.declared.value.Value.TheVariants.{Int}
use Rattle.svc_value.specs.declared.value.ValueType.{ValueType}
use Rattle.svc_value.specs.declared.value.ValueType.TheVariants as type
use Rattle.document_reading.specs.declared.head.Head.{Head}
use Rattle.document_reading.specs.declared.head.Head.TheVariants as head
use Rattle.document_reading.specs.declared.refusal.Code.TheVariants.{E04}
use Rattle.document_reading.specs.declared.statement.Statement.{Statement}
use Rattle.document_reading.specs.declared.statement.Statement.TheVariants.{Input, Derived, Set, Add, Drop, Define, Settle, Do, Take, Turn}
use Rattle.document_reading.specs.declared.line_error.LineError.{LineError}
use Rattle.document_reading.specs.declared.line_error.LineError.TheVariants.{Refused, OutOfMemory}
use Rattle.document_reading.specs.Grammar.{IsLiteral, IsBody}

-- how many bytes stand before the first LF
abbrev pub line_len : List ℕ → ℕ
line_len [] = 0
line_len (b ∷ bytes) = if b == 10 then 0 else suc (line_len bytes)

-- ---- what a call answers

-- it is refused since nothing is so, unless memory ran out
abbrev pub Fails : {X : Type 0} → (X → Type 0) → LineError → Type 0
Fails {X} Is (Refused code) = (code ≡ E04) × ((x : X) → Is x → ⊥)
Fails Is OutOfMemory = Unit {0}

-- what a call answered is so
abbrev pub ParsesAs : {X : Type 0} → (X → Type 0) → Result X LineError → Type 0
ParsesAs Is (Ok x) = Is x
ParsesAs Is (Err stop) = Fails Is stop

-- ---- the front of the tokens

-- a name at the front
abbrev pub name_at : List Token → Option (List ℕ × List Token)
name_at (Name name ∷ rest) = Some (name, rest)
name_at tokens = None

-- the type that a keyword names
abbrev pub type_of : AnyKeyword → Option ValueType
type_of keyword.Int = Some type.Int
type_of keyword.Text = Some type.Text
type_of word = None

-- `: TYPE` at the front
abbrev pub type_at : List Token → Option (ValueType × List Token)
type_at (Colon ∷ Keyword word ∷ rest) = option_map (λ ty. (ty, rest)) (type_of word)
type_at tokens = None

-- `rank NUMBER` at the front
abbrev pub rank_at : List Token → Option (ℕ × List Token)
rank_at (Keyword keyword.Rank ∷ Number rank ∷ rest) = Some (rank, rest)
rank_at tokens = None

-- `=` at the front
abbrev pub equals_at : List Token → Option (List Token)
equals_at (Equals ∷ rest) = Some rest
equals_at tokens = None

-- ---- the head of a line

-- what follows `input`, up to the literal
unfoldable pub input_at : List Token → Option (Head × List Token)
input_at tokens =
    option_and_then (λ x. option_and_then (λ y. option_map (λ rest. (head.Input x.0 y.0, rest)) (equals_at y.1)) (type_at x.1)) (name_at tokens)

-- what follows `derived`, up to the expression
unfoldable pub derived_at : List Token → Option (Head × List Token)
derived_at tokens =
    option_and_then (λ x. option_and_then (λ y. option_and_then (λ z. option_map (λ rest. (head.Derived x.0 y.0 z.0, rest)) (equals_at z.1)) (rank_at y.1)) (type_at x.1)) (name_at tokens)

-- what follows `set`, up to the literal
unfoldable pub set_at : List Token → Option (Head × List Token)
set_at tokens = option_and_then (λ x. option_map (λ rest. (head.Set x.0, rest)) (equals_at x.1)) (name_at tokens)

-- what follows `define`, up to the expression
unfoldable pub define_at : List Token → Option (Head × List Token)
define_at tokens = option_and_then (λ x. option_map (λ rest. (head.Define x.0, rest)) (equals_at x.1)) (name_at tokens)

-- what follows `add`
unfoldable pub add_at : List Token → Option (Head × List Token)
add_at tokens = option_and_then (λ x. option_map (λ y. (head.Whole (Add x.0 y.0), y.1)) (name_at x.1)) (name_at tokens)

-- what follows `drop`
unfoldable pub drop_at : List Token → Option (Head × List Token)
drop_at tokens = option_and_then (λ x. option_map (λ y. (head.Whole (Drop x.0 y.0), y.1)) (name_at x.1)) (name_at tokens)

-- `from` at the front
abbrev pub from_at : List Token → Option (List Token)
from_at (Keyword keyword.From ∷ rest) = Some rest
from_at tokens = None

-- what follows `take`
unfoldable pub take_at : List Token → Option (Head × List Token)
take_at tokens =
    option_and_then (λ x. option_and_then (λ rest. option_map (λ y. (head.Whole (Take x.0 y.0), y.1)) (name_at rest)) (from_at x.1)) (name_at tokens)

-- what follows `do`
unfoldable pub do_at : List Token → Option (Head × List Token)
do_at tokens = option_map (λ x. (head.Whole (Do x.0), x.1)) (name_at tokens)

-- what follows `turn`
unfoldable pub turn_at : List Token → Option (Head × List Token)
turn_at tokens = option_map (λ x. (head.Whole (Turn x.0), x.1)) (name_at tokens)

-- the head of a line that is not silent, by its first word
abbrev pub head_by : AnyKeyword → List Token → Option (Head × List Token)
head_by keyword.Input rest = input_at rest
head_by keyword.Derived rest = derived_at rest
head_by keyword.Set rest = set_at rest
head_by keyword.Add rest = add_at rest
head_by keyword.Drop rest = drop_at rest
head_by keyword.Define rest = define_at rest
head_by keyword.Settle rest = Some (head.Whole Settle, rest)
head_by keyword.Do rest = do_at rest
head_by keyword.Take rest = take_at rest
head_by keyword.Turn rest = turn_at rest
head_by word rest = None

-- the head of a line that is not silent
abbrev pub head_at : List Token → Option (Head × List Token)
head_at (Keyword word ∷ rest) = head_by word rest
head_at tokens = None

-- what a head says with the tokens that follow it
abbrev pub Fills : Head → List Token → Statement → Type 0
Fills (head.Whole said) rest statement = (rest ≡ []) × (statement ≡ said)
Fills (head.Input name ty) rest statement = (value : Value) × IsLiteral rest value × (statement ≡ Input name ty value)
Fills (head.Derived name ty rank) rest statement = (body : _) × IsBody rest body × (statement ≡ Derived name ty rank body)
Fills (head.Set name) rest statement = (value : Value) × IsLiteral rest value × (statement ≡ Set name value)
Fills (head.Define name) rest statement = (body : _) × IsBody rest body × (statement ≡ Define name body)

-- ---- literals

-- a quoted text alone
abbrev pub quoted_of : List Token → Option (List ℕ)
quoted_of (Quoted raw ∷ []) = Some raw
quoted_of tokens = None

-- a number of 64 bits
unfoldable pub whole : ℕ → Option Value
whole n = if nat_lt n (2 ^ 63) then Some (Int (pos n)) else None

-- a number of 64 bits behind `-`
unfoldable pub negative : ℕ → Option Value
negative n = if nat_le n (2 ^ 63) then Some (Int (neg_ℤ (pos n))) else None

-- a number alone, or `-` and a number
abbrev pub literal_value : List Token → Option Value
literal_value (Number n ∷ []) = whole n
literal_value (Dash ∷ Number n ∷ []) = negative n
literal_value tokens = None

-- ---- expressions and members

-- the word `over`
abbrev pub is_over : Token → Bool
is_over (Keyword keyword.Over) = true
is_over token = false

-- how many tokens stand before the first `over`
abbrev pub over_at : List Token → ℕ
over_at tokens = length (take_while (λ token. not (is_over token)) tokens)

-- the name that a token is
abbrev pub name_of : Token → Option (List ℕ)
name_of (Name name) = Some name
name_of token = None

-- a comma
abbrev pub is_comma : Token → Bool
is_comma Comma = true
is_comma token = false

-- the members that go on so; whether a name is to come first, or a comma
abbrev pub members_from : Bool → List Token → Option (List (List ℕ))
members_from true (Name name ∷ tokens) = option_map (λ names. name ∷ names) (members_from false tokens)
members_from false (Comma ∷ tokens) = members_from true tokens
members_from false [] = Some []
members_from at_name tokens = None
