-- When a change is refused. The tests stand in the order in which they are made; each speaks of the ranks and types of all
-- services, of the service that is changed and of its last definition.
use Rattle.std.specs.Prelude.{◌≡◌, ℕ, ◌+◌, ◌==◌, Bool, false, not, ◌&&◌, ◌||◌, nat_lt, nat_le, if◌then◌else◌, List, [], ◌∷◌, map, length, slice_index_or, Option, Some, None}
use Rattle.std.specs.List.{list_any}
use Rattle.propagation.specs.Lists.{is_among}
use Rattle.svc_expr.specs.Tree.{tree_of}
use Rattle.svc_expr.specs.Types.{takes_numbers, type_in, is_same}
use Rattle.svc_graph.specs.Accepting.{IsChangeOf}
use Rattle.svc_graph.specs.declared.definition.Change.{Change}
use Rattle.svc_graph.specs.declared.definition.Change.TheVariants.{Birth, Set, Add, Drop, Define}
use Rattle.svc_graph.specs.declared.definition.Definition.{Definition}
use Rattle.svc_graph.specs.declared.definition.Definition.TheVariants.{Input, Derived}
use Rattle.svc_graph.specs.declared.definition.Formula.{Formula}
use Rattle.svc_graph.specs.declared.errors.ChangeError.{ChangeError}
use Rattle.svc_graph.specs.declared.errors.ChangeError.TheVariants.{Unknown, RankNotLower, WrongType, TooMany, NotInput, NotDerived, Already, NotMember}
use Rattle.svc_graph.specs.declared.kind.Kind.{Kind}
use Rattle.svc_graph.specs.History.{Row, dependencies, history_of, present, roster_of}
use Rattle.svc_value.specs.Value.{has_type}
use Rattle.svc_value.specs.declared.value.ValueType.{ValueType}
use Rattle.svc_value.specs.declared.value.ValueType.TheVariants.{Int, Text}
use Rattle.svc_value.specs.declared.limits.TheConstants.{MAX_DEPENDENCIES}

-- ---- words

-- the rank and the type of a service; those of an input of whole numbers if it is not declared
abbrev pub kind_at : List Kind → ℕ → Kind
kind_at kinds n = slice_index_or kinds n (record { rank = 0; ty = Int })

-- whether it is a derived service
abbrev pub is_derived : List Kind → ℕ → Bool
is_derived kinds n = nat_lt 0 (kind_at kinds n).rank

-- what the last definition depends on
abbrev pub last_dependencies : Option Definition → List ℕ
last_dependencies None = []
last_dependencies (Some definition) = dependencies definition

-- its members
abbrev pub last_members : Option Definition → List ℕ
last_members (Some (Derived formula)) = formula.members
last_members last = []

-- whether its members have to be whole numbers
abbrev pub last_takes_numbers : Option Definition → Bool
last_takes_numbers (Some (Derived formula)) = takes_numbers (tree_of formula.expr)
last_takes_numbers last = false

-- whether the test holds of a name or a member of the formula
abbrev pub any_named : (ℕ → Bool) → Formula → Bool
any_named test formula = list_any test formula.fixed || list_any test formula.members

-- whether a type is there and is this one
abbrev pub is_type : Option ValueType → ValueType → Bool
is_type None ty = false
is_type (Some found) ty = is_same found ty

-- whether a member stands among the names or again behind
abbrev pub repeats : List ℕ → List ℕ → Bool
repeats names [] = false
repeats names (member ∷ members) = is_among names member || is_among members member || repeats names members

-- ---- tests

-- a name that is not declared; in a birth that of the service itself counts as such
abbrev pub is_unknown : List Kind → ℕ → Bool
is_unknown kinds p = nat_le (length kinds) p

abbrev pub names_unknown : List Kind → ℕ → Change → Bool
names_unknown kinds n (Birth (Input value)) = false
names_unknown kinds n (Birth (Derived formula)) = any_named (λ p. is_unknown kinds p || p == n) formula
names_unknown kinds n (Set value) = false
names_unknown kinds n (Add member) = is_unknown kinds member
names_unknown kinds n (Drop member) = is_unknown kinds member
names_unknown kinds n (Define formula) = any_named (is_unknown kinds) formula

-- a dependency whose rank is not lower
abbrev pub is_high : List Kind → ℕ → ℕ → Bool
is_high kinds n p = nat_le (kind_at kinds n).rank (kind_at kinds p).rank

abbrev pub names_high : List Kind → ℕ → Change → Bool
names_high kinds n (Birth (Derived formula)) = any_named (is_high kinds n) formula
names_high kinds n (Add member) = is_derived kinds n && is_high kinds n member
names_high kinds n (Define formula) = is_derived kinds n && any_named (is_high kinds n) formula
names_high kinds n change = false

-- a value, an expression or a member of another type
abbrev pub is_text : List Kind → ℕ → Bool
is_text kinds p = is_same Text (kind_at kinds p).ty

abbrev pub is_ill_typed : List Kind → ℕ → Formula → Bool
is_ill_typed kinds n formula =
    not (is_type (type_in (tree_of formula.expr) (map (λ p. (kind_at kinds p).ty) formula.fixed)) (kind_at kinds n).ty)
    || (takes_numbers (tree_of formula.expr) && list_any (is_text kinds) formula.members)

abbrev pub has_wrong_type : List Kind → ℕ → Option Definition → Change → Bool
has_wrong_type kinds n last (Birth (Input value)) = not (has_type value (kind_at kinds n).ty)
has_wrong_type kinds n last (Birth (Derived formula)) = is_ill_typed kinds n formula
has_wrong_type kinds n last (Set value) = not (is_derived kinds n) && not (has_type value (kind_at kinds n).ty)
has_wrong_type kinds n last (Add member) = is_derived kinds n && (last_takes_numbers last && is_text kinds member)
has_wrong_type kinds n last (Drop member) = false
has_wrong_type kinds n last (Define formula) = is_derived kinds n && is_ill_typed kinds n formula

-- more than 16 dependencies
abbrev pub is_large : Formula → Bool
is_large formula = nat_lt MAX_DEPENDENCIES (length formula.fixed + length formula.members)

abbrev pub has_too_many : List Kind → ℕ → Option Definition → Change → Bool
has_too_many kinds n last (Birth (Derived formula)) = is_large formula
has_too_many kinds n last (Add member) = is_derived kinds n && (not (is_among (last_dependencies last) member) && nat_le MAX_DEPENDENCIES (length (last_dependencies last)))
has_too_many kinds n last (Define formula) = is_derived kinds n && is_large formula
has_too_many kinds n last change = false

-- a value for a derived service
abbrev pub sets_derived : List Kind → ℕ → Change → Bool
sets_derived kinds n (Set value) = is_derived kinds n
sets_derived kinds n change = false

-- members or a formula for an input
abbrev pub changes_input : List Kind → ℕ → Change → Bool
changes_input kinds n (Add member) = not (is_derived kinds n)
changes_input kinds n (Drop member) = not (is_derived kinds n)
changes_input kinds n (Define formula) = not (is_derived kinds n)
changes_input kinds n change = false

-- a member that is a dependency already
abbrev pub brings_again : List Kind → ℕ → Option Definition → Change → Bool
brings_again kinds n last (Birth (Derived formula)) = repeats formula.fixed formula.members
brings_again kinds n last (Add member) = is_among (last_dependencies last) member
brings_again kinds n last (Define formula) = is_derived kinds n && repeats formula.fixed formula.members
brings_again kinds n last change = false

-- a member that goes and is none
abbrev pub drops_other : List Kind → ℕ → Option Definition → Change → Bool
drops_other kinds n last (Drop member) = is_derived kinds n && not (is_among (last_members last) member)
drops_other kinds n last change = false

-- ---- the refusal

-- the error of the first test that holds, if one does
abbrev pub first_error : List Kind → ℕ → Option Definition → Change → Option ChangeError
first_error kinds n last change =
    if names_unknown kinds n change then Some Unknown
    else (if names_high kinds n change then Some RankNotLower
    else (if has_wrong_type kinds n last change then Some WrongType
    else (if has_too_many kinds n last change then Some TooMany
    else (if sets_derived kinds n change then Some NotInput
    else (if changes_input kinds n change then Some NotDerived
    else (if brings_again kinds n last change then Some Already
    else (if drops_other kinds n last change then Some NotMember
    else None)))))))

-- why a change of service n is refused where these are the rows, if it is
abbrev pub refusal_of : List Row → ℕ → Change → Option ChangeError
refusal_of rows n change = first_error (roster_of rows) n (present (history_of rows n)) change

-- a book accepts the change: it is one of its service, and no test holds of it
pub record AcceptsChange (rows : List Row) (n : ℕ) (change : Change) : Type 0 where
  pub form : IsChangeOf rows n change
  pub passes : refusal_of rows n change ≡ None
