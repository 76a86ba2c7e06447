-- Where some part of an expression has no type, the whole has none.
use Rattle.std.proofs.Common.{◌≡◌, ℕ, ◌+◌, Bool, true, false, ◌||◌, cond, List, [], ◌∷◌, ◌++◌, Option, Some, None, is_some, is_none, refl, sym, ap, inl, inr, ◌⊎◌, ◌∙◌, true≢false}
use Rattle.std.proofs.lemmas.List.Folds.{list_any-append}
use Rattle.std.specs.List.{list_any, list_all, position_from}
use Rattle.std.specs.Option.{option_and_then}
use Rattle.svc_expr.specs.Tree.{Tree, number, words, given, negated, denied, pair, choice, len_of, number_of, text_of, sum_of_members, count_of_members, least_member, greatest_member}
use Rattle.svc_expr.specs.Types.{type_in, operands, parts, is_mistyped, converted, pair_type, choice_type}
use Rattle.svc_graph.proofs.Lists.{and_left}
use Rattle.svc_value.specs.declared.value.ValueType.{ValueType}
use Rattle.svc_value.specs.declared.value.ValueType.TheVariants.{Int, Text}

-- one of two tests holds where their disjunction does
or_cases : (a b : Bool) → (a || b) ≡ true → (a ≡ true) ⊎ (b ≡ true)
or_cases true b h = inl refl
or_cases false b h = inr h

none_is : (o : Option ValueType) → is_none o ≡ true → o ≡ None
none_is None h = refl
none_is (Some ty) h = absurd (true≢false (sym h))

-- a mistyped root
root : (types : List ValueType) (tree : Tree) → is_mistyped types tree ≡ true → type_in tree types ≡ None
root types tree h = none_is (type_in tree types) (and_left (is_none (type_in tree types)) (list_all (λ a. is_some (type_in a types)) (operands tree)) h)

-- a form with one operand
one : (types : List ValueType) (f : ValueType → Option ValueType) (tree a : Tree) → type_in tree types ≡ option_and_then f (type_in a types) →
    (list_any (is_mistyped types) (parts a) ≡ true → type_in a types ≡ None) → (is_mistyped types tree || list_any (is_mistyped types) (parts a)) ≡ true → type_in tree types ≡ None
one types f tree a is below h =
    elim (or_cases (is_mistyped types tree) (list_any (is_mistyped types) (parts a)) h) [ inl here ↦ root types tree here | inr there ↦ is ∙ ap (option_and_then f) (below there) ]

-- a leaf
leaf : (types : List ValueType) (tree : Tree) → (is_mistyped types tree || false) ≡ true → type_in tree types ≡ None
leaf types tree h = elim (or_cases (is_mistyped types tree) false h) [ inl here ↦ root types tree here | inr never ↦ absurd (true≢false (sym never)) ]

-- nothing after what is there
abbrev nothing : ValueType → Option ValueType
nothing ty = None

after : (o : Option ValueType) → option_and_then nothing o ≡ None
after None = refl
after (Some ty) = refl

pub untyped : (types : List ValueType) (tree : Tree) → list_any (is_mistyped types) (parts tree) ≡ true → type_in tree types ≡ None
untyped types (number z) h = leaf types (number z) h
untyped types (words text) h = leaf types (words text) h
untyped types (given k) h = leaf types (given k) h
untyped types (negated a) h = one types (converted Int Int) (negated a) a refl (untyped types a) h
untyped types (denied a) h = one types (converted Int Int) (denied a) a refl (untyped types a) h
untyped types (pair op a b) h =
    elim (or_cases (is_mistyped types (pair op a b)) _ h) [
      | inl here ↦ root types (pair op a b) here
      | inr there ↦ elim (or_cases _ _ (sym (list_any-append (is_mistyped types) (parts a) (parts b)) ∙ there)) [
        | inl left ↦ ap (option_and_then (λ x. option_and_then (pair_type op x) (type_in b types))) (untyped types a left)
        | inr right ↦ ap (λ o. option_and_then (λ x. option_and_then (pair_type op x) o) (type_in a types)) (untyped types b right) ∙ after (type_in a types)
      ]
    ]
untyped types (choice c a b) h =
    elim (or_cases (is_mistyped types (choice c a b)) _ h) [
      | inl here ↦ root types (choice c a b) here
      | inr there ↦ elim (or_cases _ _ (sym (list_any-append (is_mistyped types) (parts c ++ parts a) (parts b)) ∙ there)) [
        | inl first ↦ elim (or_cases _ _ (sym (list_any-append (is_mistyped types) (parts c) (parts a)) ∙ first)) [
          | inl condition ↦ ap (option_and_then (λ z. option_and_then (λ x. option_and_then (choice_type z x) (type_in b types)) (type_in a types))) (untyped types c condition)
          | inr left ↦ ap (λ o. option_and_then (λ z. option_and_then (λ x. option_and_then (choice_type z x) (type_in b types)) o) (type_in c types)) (untyped types a left) ∙ after (type_in c types)
        ]
        | inr right ↦
            ap (λ o. option_and_then (λ z. option_and_then (λ x. option_and_then (choice_type z x) o) (type_in a types)) (type_in c types)) (untyped types b right) ∙
            ap (λ o. option_and_then (λ (z : ValueType). o) (type_in c types)) (after (type_in a types)) ∙ after (type_in c types)
      ]
    ]
untyped types (len_of a) h = one types (converted Text Int) (len_of a) a refl (untyped types a) h
untyped types (number_of a) h = one types (converted Text Int) (number_of a) a refl (untyped types a) h
untyped types (text_of a) h = one types (converted Int Text) (text_of a) a refl (untyped types a) h
untyped types sum_of_members h = leaf types sum_of_members h
untyped types count_of_members h = leaf types count_of_members h
untyped types least_member h = leaf types least_member h
untyped types greatest_member h = leaf types greatest_member h

-- what is found somewhere is there
found : {A : Type 0} (test : A → Bool) (from : ℕ) (xs : List A) (i : ℕ) → position_from test from xs ≡ Some i → list_any test xs ≡ true
found test from [] i h = cc
found {A} test from (x ∷ xs) i h = by (test x) h (λ later. found test (from + 1) xs i later)
  where
    by : (b : Bool) → cond b (Some from) (position_from test (from + 1) xs) ≡ Some i → (position_from test (from + 1) xs ≡ Some i → list_any test xs ≡ true) → (b || list_any test xs) ≡ true
    by true e later = refl
    by false e later = later e

-- so where a mistyped part is found
pub untyped_where_found : (types : List ValueType) (tree : Tree) (node : ℕ) → position_from (is_mistyped types) 0 (parts tree) ≡ Some node → type_in tree types ≡ None
untyped_where_found types tree node h = untyped types tree (found (is_mistyped types) 0 (parts tree) node h)
