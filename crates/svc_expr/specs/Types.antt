-- The types of expressions.
use Rattle.std.specs.Prelude.{ℕ, ◌+◌, max, Bool, true, false, ◌&&◌, ◌||◌, if◌then◌else◌, Option, Some, None, is_some, is_none, option_and_then, List, [], ◌∷◌, ◌++◌, slice_get}
use Rattle.std.specs.List.{list_all}
use Rattle.svc_value.specs.declared.value.ValueType.{ValueType}
use Rattle.svc_value.specs.declared.value.ValueType.TheVariants.{Int, Text}
use Rattle.svc_expr.specs.declared.expr.Op.{Op}
use Rattle.svc_expr.specs.declared.expr.Op.TheVariants.{Join, Eq, Ne, Lt, Le, Gt, Ge}
use Rattle.svc_expr.specs.Tree.{Tree, words, given, negated, denied, pair, choice, len_of, number_of, text_of, sum_of_members, least_member, greatest_member}

-- one more than the greatest name
abbrev pub name_count : Tree → ℕ
name_count (given k) = k + 1
name_count (negated a) = name_count a
name_count (denied a) = name_count a
name_count (pair op a b) = max (name_count a) (name_count b)
name_count (choice c a b) = max (max (name_count c) (name_count a)) (name_count b)
name_count (len_of a) = name_count a
name_count (number_of a) = name_count a
name_count (text_of a) = name_count a
name_count leaf = 0

-- the numbers of the names that a tree mentions, from left to right
abbrev pub mentions : Tree → List ℕ
mentions (given k) = k ∷ []
mentions (negated a) = mentions a
mentions (denied a) = mentions a
mentions (pair op a b) = mentions a ++ mentions b
mentions (choice c a b) = mentions c ++ mentions a ++ mentions b
mentions (len_of a) = mentions a
mentions (number_of a) = mentions a
mentions (text_of a) = mentions a
mentions leaf = []

-- whether the tree has the sum, the least or the greatest of the members
abbrev pub takes_numbers : Tree → Bool
takes_numbers (negated a) = takes_numbers a
takes_numbers (denied a) = takes_numbers a
takes_numbers (pair op a b) = takes_numbers a || takes_numbers b
takes_numbers (choice c a b) = takes_numbers c || takes_numbers a || takes_numbers b
takes_numbers (len_of a) = takes_numbers a
takes_numbers (number_of a) = takes_numbers a
takes_numbers (text_of a) = takes_numbers a
takes_numbers sum_of_members = true
takes_numbers least_member = true
takes_numbers greatest_member = true
takes_numbers leaf = false

-- whether two types are one
abbrev pub is_same : ValueType → ValueType → Bool
is_same Int Int = true
is_same Text Text = true
is_same x y = false

-- the type that a form gives, where its operand has the type that it takes
abbrev pub converted : ValueType → ValueType → ValueType → Option ValueType
converted takes gives operand = if is_same takes operand then Some gives else None

-- the type that an operator gives
abbrev pub pair_type : Op → ValueType → ValueType → Option ValueType
pair_type Join x y = if is_same Text x && is_same Text y then Some Text else None
pair_type Eq x y = if is_same x y then Some Int else None
pair_type Ne x y = if is_same x y then Some Int else None
pair_type Lt x y = if is_same x y then Some Int else None
pair_type Le x y = if is_same x y then Some Int else None
pair_type Gt x y = if is_same x y then Some Int else None
pair_type Ge x y = if is_same x y then Some Int else None
pair_type op x y = if is_same Int x && is_same Int y then Some Int else None

-- the type of a choice: the condition is a number, and both branches have one type
abbrev pub choice_type : ValueType → ValueType → ValueType → Option ValueType
choice_type c x y = if is_same Int c && is_same x y then Some x else None

-- the type of an expression over the types of its names, where it has one
abbrev pub type_in : Tree → List ValueType → Option ValueType
type_in (words text) types = Some Text
type_in (given k) types = slice_get types k
type_in (negated a) types = option_and_then (converted Int Int) (type_in a types)
type_in (denied a) types = option_and_then (converted Int Int) (type_in a types)
type_in (pair op a b) types = option_and_then (λ x. option_and_then (pair_type op x) (type_in b types)) (type_in a types)
type_in (choice c a b) types = option_and_then (λ z. option_and_then (λ x. option_and_then (choice_type z x) (type_in b types)) (type_in a types)) (type_in c types)
type_in (len_of a) types = option_and_then (converted Text Int) (type_in a types)
type_in (number_of a) types = option_and_then (converted Text Int) (type_in a types)
type_in (text_of a) types = option_and_then (converted Int Text) (type_in a types)
type_in leaf types = Some Int

-- the operands of the root, from left to right
abbrev pub operands : Tree → List Tree
operands (negated a) = a ∷ []
operands (denied a) = a ∷ []
operands (pair op a b) = a ∷ b ∷ []
operands (choice c a b) = c ∷ a ∷ b ∷ []
operands (len_of a) = a ∷ []
operands (number_of a) = a ∷ []
operands (text_of a) = a ∷ []
operands leaf = []

-- a tree and all its parts in preorder
abbrev pub parts : Tree → List Tree
parts (negated a) = negated a ∷ parts a
parts (denied a) = denied a ∷ parts a
parts (pair op a b) = pair op a b ∷ parts a ++ parts b
parts (choice c a b) = choice c a b ∷ parts c ++ parts a ++ parts b
parts (len_of a) = len_of a ∷ parts a
parts (number_of a) = number_of a ∷ parts a
parts (text_of a) = text_of a ∷ parts a
parts leaf = leaf ∷ []

-- the root has no type although each of its operands has one
abbrev pub is_mistyped : List ValueType → Tree → Bool
is_mistyped types tree = is_none (type_in tree types) && list_all (λ a. is_some (type_in a types)) (operands tree)
