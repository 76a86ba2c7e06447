-- The canonical text of an expression.
use Rattle.std.specs.Int.{w64}
use Rattle.std.specs.Prelude.{FitsSigned, ◌≡◌, ℕ, ◌<◌, ◌≤◌, ◌^◌, pos, negsuc, Bool, true, false, List, [], ◌++◌, length, map, codes, slice_index_or}
use Rattle.std.specs.Str.{IsUtf8}
use Rattle.std.specs.Fmt.{signed_decimal}
use Rattle.svc_value.specs.Printed.{between_quotes}
use Rattle.svc_expr.specs.declared.expr.Op.{Op}
use Rattle.svc_expr.specs.declared.expr.Op.TheVariants.{Add, Sub, Mul, Div, Rem, Join, Eq, Ne, Lt, Le, Gt, Ge, And, Or}
use Rattle.svc_expr.specs.Types.{mentions}
use Rattle.svc_expr.specs.Grammar.{with_names}
use Rattle.svc_expr.specs.Tree.{Tree, number, words, given, negated, denied, pair, choice, len_of, number_of, text_of, sum_of_members, count_of_members, least_member, greatest_member}
use Rattle.svc_value.specs.declared.limits.TheConstants.{MAX_TEXT_LEN}

-- an operator with a blank on each side
abbrev pub sign_text : Op → List ℕ
sign_text Add = codes " + "
sign_text Sub = codes " - "
sign_text Mul = codes " * "
sign_text Div = codes " / "
sign_text Rem = codes " % "
sign_text Join = codes " ++ "
sign_text Eq = codes " = "
sign_text Ne = codes " <> "
sign_text Lt = codes " < "
sign_text Le = codes " <= "
sign_text Gt = codes " > "
sign_text Ge = codes " >= "
sign_text And = codes " and "
sign_text Or = codes " or "

-- the text begins with a bracket
abbrev pub has_bracket : Tree → Bool
has_bracket (denied a) = true
has_bracket (pair op a b) = true
has_bracket (choice c a b) = true
has_bracket e = false

-- a text in brackets, where it does not begin with one
abbrev pub bracketed : Bool → List ℕ → List ℕ
bracketed true text = text
bracketed false text = codes "(" ++ text ++ codes ")"

-- the k-th name
abbrev pub name_at : List (List ℕ) → ℕ → List ℕ
name_at names k = slice_index_or names k []

-- the canonical text of a tree with these names
unfoldable pub canonical_text : List (List ℕ) → Tree → List ℕ
canonical_text names (number z) = signed_decimal z
canonical_text names (words text) = between_quotes text
canonical_text names (given k) = name_at names k
canonical_text names (negated a) = codes "-" ++ bracketed (has_bracket a) (canonical_text names a)
canonical_text names (denied a) = codes "(not " ++ bracketed (has_bracket a) (canonical_text names a) ++ codes ")"
canonical_text names (pair op a b) = codes "(" ++ canonical_text names a ++ sign_text op ++ canonical_text names b ++ codes ")"
canonical_text names (choice c a b) = codes "(if " ++ canonical_text names c ++ codes " then " ++ canonical_text names a ++ codes " else " ++ canonical_text names b ++ codes ")"
canonical_text names (len_of a) = codes "len(" ++ canonical_text names a ++ codes ")"
canonical_text names (number_of a) = codes "number(" ++ canonical_text names a ++ codes ")"
canonical_text names (text_of a) = codes "text(" ++ canonical_text names a ++ codes ")"
canonical_text names sum_of_members = codes "sum()"
canonical_text names count_of_members = codes "count()"
canonical_text names least_member = codes "min()"
canonical_text names greatest_member = codes "max()"

-- each number has 64 bits, and each text is UTF-8 of at most 256 bytes, as in every expression
abbrev pub IsWithin : Tree → Type 0
IsWithin (number z) = FitsSigned w64 z
IsWithin (words text) = (length text ≤ MAX_TEXT_LEN) × IsUtf8 text
IsWithin (negated a) = IsWithin a
IsWithin (denied a) = IsWithin a
IsWithin (pair op a b) = IsWithin a × IsWithin b
IsWithin (choice c a b) = IsWithin c × IsWithin a × IsWithin b
IsWithin (len_of a) = IsWithin a
IsWithin (number_of a) = IsWithin a
IsWithin (text_of a) = IsWithin a
IsWithin leaf = Unit {0}

-- the tree can be written: each number has 64 bits, each text is UTF-8 of at most 256 bytes, and each name has its number
abbrev pub IsWritable : List (List ℕ) → Tree → Type 0
IsWritable names (number (pos n)) = n < 2 ^ 63
IsWritable names (number (negsuc n)) = n < 2 ^ 63
IsWritable names (words text) = (length text ≤ MAX_TEXT_LEN) × IsUtf8 text
IsWritable names (given k) = k < length names
IsWritable names (negated a) = IsWritable names a
IsWritable names (denied a) = IsWritable names a
IsWritable names (pair op a b) = IsWritable names a × IsWritable names b
IsWritable names (choice c a b) = IsWritable names c × IsWritable names a × IsWritable names b
IsWritable names (len_of a) = IsWritable names a
IsWritable names (number_of a) = IsWritable names a
IsWritable names (text_of a) = IsWritable names a
IsWritable names leaf = Unit {0}

-- the names are those that the tree mentions, each once, in the order of first mention
abbrev pub IsInOrder : List (List ℕ) → Tree → Type 0
IsInOrder names tree = with_names [] (map (name_at names) (mentions tree)) ≡ names
