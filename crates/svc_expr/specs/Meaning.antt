-- What an expression means.
use Rattle.std.specs.Prelude.{ℕ, zero, ℤ, pos, negsuc, ◌+ℤ◌, ◌-ℤ◌, ◌*ℤ◌, neg_ℤ, int_le, int_div, int_rem, Bool, true, false, not, ◌&&◌, ◌||◌, ◌==◌, nat_le, nat_lt, if◌then◌else◌, Option, Some, None, option_map, List, [], ◌∷◌, ◌++◌, length, drop, fold, slice_index, slice_index_or}
use Rattle.std.specs.declared.cmp.Ordering.{Ordering}
use Rattle.std.specs.Ordering.{is_eq, is_ne, is_lt, is_le, is_gt, is_ge, int_cmp, nat_cmp}
use Rattle.std.specs.Cmp.Lexicographic.{slice_cmp}
use Rattle.std.specs.Fmt.{signed_decimal}
use Rattle.std.specs.Int.{int_min, int_max}
use Rattle.std.specs.Str.{chars, all_ascii_digits}
use Rattle.std.specs.Str.Parse.{digits_value}
use Rattle.svc_value.specs.declared.value.Fault.{Fault}
use Rattle.svc_value.specs.declared.value.Fault.TheVariants.{Overflow, Zero, Long, Number, Empty}
use Rattle.svc_value.specs.declared.value.Value.{Value}
use Rattle.svc_value.specs.declared.value.Value.TheVariants.{Int, Words, Bad}
use Rattle.svc_expr.specs.declared.expr.Op.{Op}
use Rattle.svc_expr.specs.declared.expr.Op.TheVariants.{Add, Sub, Mul, Div, Rem, Join, Eq, Ne, Lt, Le, Gt, Ge, And, Or}
use Rattle.svc_expr.specs.Tree.{Tree, number, words, given, negated, denied, pair, choice, len_of, number_of, text_of, sum_of_members, count_of_members, least_member, greatest_member}
use Rattle.svc_value.specs.declared.limits.TheConstants.{MAX_TEXT_LEN}

-- what stands where a part has no type or a name has no value; no expression that has a type comes to it
abbrev pub untyped : Value
untyped = Bad Number

-- the whole number has 64 bits
abbrev pub is_i64 : ℤ → Bool
is_i64 z = int_le (negsuc 9223372036854775807) z && int_le z (pos 9223372036854775807)

-- an exact whole number, or overflow where it has not 64 bits
abbrev pub exact : ℤ → Value
exact z = if is_i64 z then Int z else Bad Overflow

-- every number but 0 is true
abbrev pub is_true : ℤ → Bool
is_true (pos zero) = false
is_true z = true

-- 1 for true, 0 for false
abbrev pub truth : Bool → Value
truth b = Int (if b then pos 1 else pos 0)

-- truncated toward zero
abbrev pub quotient : ℤ → ℤ → Value
quotient x (pos zero) = Bad Zero
quotient x y = exact (int_div x y)

-- with the sign of the dividend
abbrev pub remainder : ℤ → ℤ → Value
remainder x (pos zero) = Bad Zero
remainder x y = exact (int_rem x y)

-- what a comparison says of the order of its operands
abbrev pub compared : Op → Ordering → Value
compared Eq order = truth (is_eq order)
compared Ne order = truth (is_ne order)
compared Lt order = truth (is_lt order)
compared Le order = truth (is_le order)
compared Gt order = truth (is_gt order)
compared Ge order = truth (is_ge order)
compared op order = untyped

-- an operator on two whole numbers
abbrev pub of_numbers : Op → ℤ → ℤ → Value
of_numbers Add x y = exact (x +ℤ y)
of_numbers Sub x y = exact (x -ℤ y)
of_numbers Mul x y = exact (x *ℤ y)
of_numbers Div x y = quotient x y
of_numbers Rem x y = remainder x y
of_numbers And x y = truth (is_true x && is_true y)
of_numbers Or x y = truth (is_true x || is_true y)
of_numbers op x y = compared op (int_cmp x y)

-- two texts as one, or a fault past 256 bytes
abbrev pub concatenation : List ℕ → List ℕ → Value
concatenation x y = if nat_le (length (x ++ y)) MAX_TEXT_LEN then Words (x ++ y) else Bad Long

-- an operator on two texts, which are ordered by their bytes
abbrev pub of_texts : Op → List ℕ → List ℕ → Value
of_texts Join x y = concatenation x y
of_texts op x y = compared op (slice_cmp nat_cmp x y)

-- an operator on two values: the first fault, or what it makes of two numbers or two texts
abbrev pub of_pair : Op → Value → Value → Value
of_pair op (Bad fault) y = Bad fault
of_pair op x (Bad fault) = Bad fault
of_pair op (Int x) (Int y) = of_numbers op x y
of_pair op (Words x) (Words y) = of_texts op x y
of_pair op x y = untyped

-- what f makes of a whole number; a fault stays
abbrev pub of_number : (ℤ → Value) → Value → Value
of_number f (Int z) = f z
of_number f (Words text) = untyped
of_number f (Bad fault) = Bad fault

-- what f makes of a text; a fault stays
abbrev pub of_text : (List ℕ → Value) → Value → Value
of_text f (Int z) = untyped
of_text f (Words text) = f text
of_text f (Bad fault) = Bad fault

-- the fault of the condition, or the branch that it chooses
abbrev pub branch : Value → Value → Value → Value
branch (Int z) x y = if is_true z then x else y
branch (Words text) x y = untyped
branch (Bad fault) x y = Bad fault

-- one decimal digit or more and nothing else, as a number
abbrev pub unsigned_number : List ℕ → Option ℤ
unsigned_number text = if nat_lt 0 (length text) && all_ascii_digits text then Some (pos (digits_value 10 text)) else None

-- the same, or `-` directly before it
abbrev pub signed_number : List ℕ → Option ℤ
signed_number text = if slice_index text 0 == 45 then option_map neg_ℤ (unsigned_number (drop 1 text)) else unsigned_number text

-- a number of 64 bits, or the fault that there is none
abbrev pub number_or_fault : Option ℤ → Value
number_or_fault (Some z) = if is_i64 z then Int z else Bad Number
number_or_fault None = Bad Number

-- the number of characters of a text
abbrev pub characters : List ℕ → Value
characters text = Int (pos (length (chars text)))

-- the first fault in a list of values
abbrev pub first_fault : List Value → Option Fault
first_fault [] = None
first_fault (Bad fault ∷ values) = Some fault
first_fault (value ∷ values) = first_fault values

-- the whole numbers in a list of values
abbrev pub numbers_in : List Value → List ℤ
numbers_in [] = []
numbers_in (Int z ∷ values) = z ∷ numbers_in values
numbers_in (value ∷ values) = numbers_in values

-- the fault, or what f makes of numbers where there is none
abbrev pub fault_or : (List ℤ → Value) → Option Fault → List ℤ → Value
fault_or f (Some fault) numbers = Bad fault
fault_or f None numbers = f numbers

-- the first fault among the members, or what f makes of their numbers
abbrev pub of_members : (List ℤ → Value) → List Value → Value
of_members f members = fault_or f (first_fault members) (numbers_in members)

-- the exact sum
abbrev pub total : List ℤ → ℤ
total [] = pos 0
total (z ∷ zs) = z +ℤ total zs

-- the least number, or a fault where there is none
abbrev pub least : List ℤ → Value
least [] = Bad Empty
least (z ∷ zs) = Int (fold int_min z zs)

-- the greatest number, or a fault where there is none
abbrev pub greatest : List ℤ → Value
greatest [] = Bad Empty
greatest (z ∷ zs) = Int (fold int_max z zs)

-- the meaning of an expression over the values of its names and of its members
abbrev pub meaning : Tree → List Value → List Value → Value
meaning (number z) values members = Int z
meaning (words text) values members = Words text
meaning (given k) values members = slice_index_or values k untyped
meaning (negated a) values members = of_number (λ z. exact (neg_ℤ z)) (meaning a values members)
meaning (denied a) values members = of_number (λ z. truth (not (is_true z))) (meaning a values members)
meaning (pair op a b) values members = of_pair op (meaning a values members) (meaning b values members)
meaning (choice c a b) values members = branch (meaning c values members) (meaning a values members) (meaning b values members)
meaning (len_of a) values members = of_text characters (meaning a values members)
meaning (number_of a) values members = of_text (λ text. number_or_fault (signed_number text)) (meaning a values members)
meaning (text_of a) values members = of_number (λ z. Words (signed_decimal z)) (meaning a values members)
meaning sum_of_members values members = of_members (λ zs. exact (total zs)) members
meaning count_of_members values members = Int (pos (length members))
meaning least_member values members = of_members least members
meaning greatest_member values members = of_members greatest members

-- the operator that joins texts
abbrev pub is_join : Op → Bool
is_join Join = true
is_join op = false

-- the tree has a part that is a text, joins texts or makes one
abbrev pub has_text : Tree → Bool
has_text (words text) = true
has_text (text_of a) = true
has_text (pair op a b) = is_join op || has_text a || has_text b
has_text (negated a) = has_text a
has_text (denied a) = has_text a
has_text (choice c a b) = has_text c || has_text a || has_text b
has_text (len_of a) = has_text a
has_text (number_of a) = has_text a
has_text leaf = false

-- the value is a whole number or a fault
abbrev pub IsNoText : Value → Type 0
IsNoText (Words text) = ⊥
IsNoText value = Unit {0}
