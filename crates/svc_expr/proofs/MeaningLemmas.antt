-- A tree without texts has no text as its meaning.
use Rattle.std.proofs.Common.{◌≡◌, ℕ, inl, inr, ℤ, pos, negsuc, zero, suc, ◌+ℤ◌, ◌-ℤ◌, ◌*ℤ◌, int_div, int_rem, neg_ℤ, slice_index_or, true, false, ◌||◌, if◌then◌else◌, Option, Some, None, List, [], ◌∷◌, length, All, sym, subst}
use Rattle.std.proofs.lemmas.Bool.{or_parts, cases_lt}
use Rattle.std.proofs.lemmas.List.{get_or_past}
use Rattle.std.proofs.lemmas.List.Elements.{All-get_or}
use Rattle.std.specs.declared.cmp.Ordering.{Ordering}
use Rattle.svc_value.specs.declared.value.Fault.{Fault}
use Rattle.svc_value.specs.declared.value.Fault.TheVariants.{Overflow}
use Rattle.svc_value.specs.declared.value.Value.{Value}
use Rattle.svc_value.specs.declared.value.Value.TheVariants.{Int, Words, Bad}
use Rattle.svc_expr.specs.declared.expr.Op.{Op}
use Rattle.svc_expr.specs.declared.expr.Op.TheVariants.{Add, Sub, Mul, Div, Rem, Join, Eq, Ne, Lt, Le, Gt, Ge, And, Or}
use Rattle.svc_expr.specs.Tree.{Tree, number, words, given, negated, denied, pair, choice, len_of, number_of, text_of, sum_of_members, count_of_members, least_member, greatest_member}
use Rattle.svc_expr.specs.Meaning.{untyped, is_i64, exact, is_true, quotient, remainder, compared, of_numbers, is_join, of_pair, of_number, of_text, branch, first_fault, numbers_in, fault_or, total, least, greatest, meaning, has_text, IsNoText}

exact_is : (z : ℤ) → IsNoText (exact z)
exact_is z = elim (is_i64 z) as (λ b. IsNoText (if b then Int z else Bad Overflow)) [ true ↦ tt | false ↦ tt ]

compared_is : (op : Op) (order : Ordering) → IsNoText (compared op order)
compared_is Eq order = tt
compared_is Ne order = tt
compared_is Lt order = tt
compared_is Le order = tt
compared_is Gt order = tt
compared_is Ge order = tt
compared_is op order = tt

quotient_is : (x y : ℤ) → IsNoText (quotient x y)
quotient_is x (pos zero) = tt
quotient_is x (pos (suc n)) = exact_is (int_div x (pos (suc n)))
quotient_is x (negsuc n) = exact_is (int_div x (negsuc n))

remainder_is : (x y : ℤ) → IsNoText (remainder x y)
remainder_is x (pos zero) = tt
remainder_is x (pos (suc n)) = exact_is (int_rem x (pos (suc n)))
remainder_is x (negsuc n) = exact_is (int_rem x (negsuc n))

of_numbers_is : (op : Op) (x y : ℤ) → IsNoText (of_numbers op x y)
of_numbers_is Add x y = exact_is (x +ℤ y)
of_numbers_is Sub x y = exact_is (x -ℤ y)
of_numbers_is Mul x y = exact_is (x *ℤ y)
of_numbers_is Div x y = quotient_is x y
of_numbers_is Rem x y = remainder_is x y
of_numbers_is And x y = tt
of_numbers_is Or x y = tt
of_numbers_is Eq x y = tt
of_numbers_is Ne x y = tt
of_numbers_is Lt x y = tt
of_numbers_is Le x y = tt
of_numbers_is Gt x y = tt
of_numbers_is Ge x y = tt
of_numbers_is Join x y = tt

of_pair_is : (op : Op) (x y : Value) → IsNoText x → IsNoText y → IsNoText (of_pair op x y)
of_pair_is op (Bad fault) y g h = tt
of_pair_is op (Int x) (Bad fault) g h = tt
of_pair_is op (Int x) (Int y) g h = of_numbers_is op x y
of_pair_is op (Int x) (Words y) g h = absurd h
of_pair_is op (Words x) y g h = absurd g

of_number_is : (f : ℤ → Value) (x : Value) → ((z : ℤ) → IsNoText (f z)) → IsNoText (of_number f x)
of_number_is f (Int z) h = h z
of_number_is f (Words text) h = tt
of_number_is f (Bad fault) h = tt

of_text_is : (f : List ℕ → Value) (x : Value) → IsNoText x → IsNoText (of_text f x)
of_text_is f (Int z) h = tt
of_text_is f (Words text) h = absurd h
of_text_is f (Bad fault) h = tt

chosen_is : (c x y : Value) → IsNoText x → IsNoText y → IsNoText (branch c x y)
chosen_is (Int z) x y g h = elim (is_true z) as (λ b. IsNoText (if b then x else y)) [ true ↦ g | false ↦ h ]
chosen_is (Words text) x y g h = tt
chosen_is (Bad fault) x y g h = tt

fault_or_is : (f : List ℤ → Value) (o : Option Fault) (zs : List ℤ) → IsNoText (f zs) → IsNoText (fault_or f o zs)
fault_or_is f None zs h = h
fault_or_is f (Some fault) zs h = tt

least_is : (zs : List ℤ) → IsNoText (least zs)
least_is [] = tt
least_is (z ∷ zs) = tt

greatest_is : (zs : List ℤ) → IsNoText (greatest zs)
greatest_is [] = tt
greatest_is (z ∷ zs) = tt

given_is : (values : List Value) (k : ℕ) → All IsNoText values → IsNoText (slice_index_or values k untyped)
given_is values k h =
    elim (cases_lt k (length values)) [
      | inl l ↦ All-get_or IsNoText values k untyped l h
      | inr p ↦ subst IsNoText (sym (get_or_past values k untyped p)) tt
    ]

pub no_text : (tree : Tree) (values members : List Value) → has_text tree ≡ false → All IsNoText values → IsNoText (meaning tree values members)
no_text (number z) values members f h = tt
no_text (words text) values members f h = absurd (cc)
no_text (given k) values members f h = given_is values k h
no_text (negated a) values members f h = of_number_is _ (meaning a values members) (λ z. exact_is (neg_ℤ z))
no_text (denied a) values members f h = of_number_is _ (meaning a values members) (λ z. tt)
no_text (pair op a b) values members f h =
    let p = or_parts (is_join op || has_text a) (has_text b) f in
    let q = or_parts (is_join op) (has_text a) p.0 in
    of_pair_is op (meaning a values members) (meaning b values members) (no_text a values members q.1 h) (no_text b values members p.1 h)
no_text (choice c a b) values members f h =
    let p = or_parts (has_text c || has_text a) (has_text b) f in
    let q = or_parts (has_text c) (has_text a) p.0 in
    chosen_is (meaning c values members) (meaning a values members) (meaning b values members) (no_text a values members q.1 h) (no_text b values members p.1 h)
no_text (len_of a) values members f h = of_text_is _ (meaning a values members) (no_text a values members f h)
no_text (number_of a) values members f h = of_text_is _ (meaning a values members) (no_text a values members f h)
no_text (text_of a) values members f h = absurd (cc)
no_text sum_of_members values members f h = fault_or_is _ (first_fault members) (numbers_in members) (exact_is (total (numbers_in members)))
no_text count_of_members values members f h = tt
no_text least_member values members f h = fault_or_is _ (first_fault members) (numbers_in members) (least_is (numbers_in members))
no_text greatest_member values members f h = fault_or_is _ (first_fault members) (numbers_in members) (greatest_is (numbers_in members))
