-- Types found from left to right, while the nodes are counted in preorder.
use Rattle.std.specs.Prelude.{ℕ, ◌+◌, Option, Some, None, Result, Ok, Err, List, slice_get}
use Rattle.svc_value.specs.declared.value.ValueType.{ValueType}
use Rattle.svc_value.specs.declared.value.ValueType.TheVariants.{Int, Text}
use Rattle.svc_expr.specs.declared.errors.TypeErrorAt.{TypeErrorAt}
use Rattle.svc_expr.specs.Tree.{Tree, words, given, negated, denied, pair, choice, len_of, number_of, text_of}
use Rattle.svc_expr.specs.Types.{converted, pair_type, choice_type}

-- a type and the number of the node behind, or the node that has no type
abbrev pub Typing : Type 0
Typing = Result (ValueType × ℕ) TypeErrorAt

abbrev pub typing_then : Typing → (ValueType × ℕ → Typing) → Typing
typing_then (Ok x) f = f x
typing_then (Err e) f = Err e

-- the type that the root gives, where it gives one
abbrev pub root_gives : Option ValueType → ℕ → ℕ → Typing
root_gives (Some ty) node next = Ok (ty, next)
root_gives None node next = Err (record { node = node })

-- a form of one operand
abbrev pub one_typed : ValueType → ValueType → ℕ → Typing → Typing
one_typed takes gives node a = typing_then a (λ x. root_gives (converted takes gives x.0) node x.1)

-- the type of a tree whose root is the node of this number
abbrev pub typed_from : List ValueType → ℕ → Tree → Typing
typed_from types node (words text) = Ok (Text, node + 1)
typed_from types node (given k) = root_gives (slice_get types k) node (node + 1)
typed_from types node (negated a) = one_typed Int Int node (typed_from types (node + 1) a)
typed_from types node (denied a) = one_typed Int Int node (typed_from types (node + 1) a)
typed_from types node (pair op a b) =
    typing_then (typed_from types (node + 1) a) (λ x. typing_then (typed_from types x.1 b) (λ y. root_gives (pair_type op x.0 y.0) node y.1))
typed_from types node (choice c a b) =
    typing_then (typed_from types (node + 1) c) (λ z. typing_then (typed_from types z.1 a) (λ x. typing_then (typed_from types x.1 b) (λ y. root_gives (choice_type z.0 x.0 y.0) node y.1)))
typed_from types node (len_of a) = one_typed Text Int node (typed_from types (node + 1) a)
typed_from types node (number_of a) = one_typed Text Int node (typed_from types (node + 1) a)
typed_from types node (text_of a) = one_typed Int Text node (typed_from types (node + 1) a)
typed_from types node leaf = Ok (Int, node + 1)
