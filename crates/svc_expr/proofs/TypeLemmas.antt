-- What is found from left to right is the type, or the first node without one.
use Rattle.std.proofs.Common.{◌≡◌, ℕ, ◌+◌, Bool, true, false, cond, ◌&&◌, Option, Some, None, Ok, Err, List, [], ◌∷◌, ◌++◌, length, refl, sym, ap, ◌∙◌, length-append, arith}
use Rattle.std.specs.Prelude.{is_some, is_none, option_and_then, slice_get}
use Rattle.std.specs.List.{list_all, position_from}
use Rattle.svc_value.specs.declared.value.ValueType.{ValueType}
use Rattle.svc_value.specs.declared.value.ValueType.TheVariants.{Int, Text}
use Rattle.svc_expr.specs.declared.errors.TypeErrorAt.{TypeErrorAt}
use Rattle.svc_expr.specs.declared.expr.Op.{Op}
use Rattle.svc_expr.specs.Tree.{Tree, number, words, given, negated, denied, pair, choice, len_of, number_of, text_of, sum_of_members, count_of_members, least_member, greatest_member}
use Rattle.svc_expr.specs.Types.{converted, pair_type, choice_type, type_in, operands, parts, is_mistyped}
use Rattle.svc_expr.specs.Typing.{Typing, typing_then, root_gives, one_typed, typed_from}

module _ (p : Tree → Bool) where
  past_none : (n : ℕ) (xs ys : List Tree) → position_from p n xs ≡ None → position_from p n (xs ++ ys) ≡ position_from p (n + length xs) ys
  past_none n [] ys h = ap (λ (k : ℕ). position_from p k ys) (omega arith)
  past_none n (x ∷ xs) ys h =
      elim (p x) as (λ b. cond b (Some n) (position_from p (n + 1) xs) ≡ None → cond b (Some n) (position_from p (n + 1) (xs ++ ys)) ≡ position_from p (n + length (x ∷ xs)) ys) [
        | true ↦ λ g. absurd (cc)
        | false ↦ λ g. past_none (n + 1) xs ys g ∙ ap (λ (k : ℕ). position_from p k ys) (omega arith)
      ] h

  found_first : (n k : ℕ) (xs ys : List Tree) → position_from p n xs ≡ Some k → position_from p n (xs ++ ys) ≡ Some k
  found_first n k [] ys h = absurd (cc)
  found_first n k (x ∷ xs) ys h =
      elim (p x) as (λ b. cond b (Some n) (position_from p (n + 1) xs) ≡ Some k → cond b (Some n) (position_from p (n + 1) (xs ++ ys)) ≡ Some k) [
        | true ↦ λ g. g
        | false ↦ λ g. found_first (n + 1) k xs ys g
      ] h

module _ (types : List ValueType) where
  abbrev first : ℕ → List Tree → Option ℕ
  first n xs = position_from (is_mistyped types) n xs

  abbrev typed : Tree → Bool
  typed a = is_some (type_in a types)

  -- the root is well typed, wrong itself, or above a wrong part
  clean : (n : ℕ) (tree : Tree) (rest : List Tree) (ty : ValueType) → type_in tree types ≡ Some ty → first (n + 1) rest ≡ None → first n (tree ∷ rest) ≡ None
  clean n tree rest ty h g = ap (λ (o : Option ValueType). cond (is_none o && list_all typed (operands tree)) (Some n) (first (n + 1) rest)) h ∙ g

  wrong : (n : ℕ) (tree : Tree) (rest : List Tree) → type_in tree types ≡ None → list_all typed (operands tree) ≡ true → first n (tree ∷ rest) ≡ Some n
  wrong n tree rest h g =
      ap (λ (o : Option ValueType). cond (is_none o && list_all typed (operands tree)) (Some n) (first (n + 1) rest)) h
      ∙ ap (λ (b : Bool). cond b (Some n) (first (n + 1) rest)) g

  and_false : (b : Bool) → (b && false) ≡ false
  and_false true = refl
  and_false false = refl

  above : (n k : ℕ) (tree : Tree) (rest : List Tree) → list_all typed (operands tree) ≡ false → first (n + 1) rest ≡ Some k → first n (tree ∷ rest) ≡ Some k
  above n k tree rest h g =
      ap (λ (b : Bool). cond (is_none (type_in tree types) && b) (Some n) (first (n + 1) rest)) h
      ∙ ap (λ (b : Bool). cond b (Some n) (first (n + 1) rest)) (and_false (is_none (type_in tree types)))
      ∙ g

  -- what was found of a tree whose root has the number n
  abbrev pub Agrees : ℕ → Tree → Typing → Type 0
  Agrees n tree (Ok x) = (type_in tree types ≡ Some x.0) × (x.1 ≡ n + length (parts tree)) × (first n (parts tree) ≡ None)
  Agrees n tree (Err e) = (type_in tree types ≡ None) × (first n (parts tree) ≡ Some e.node)

  -- the root, where each operand has a type
  root_agrees : (n next : ℕ) (tree : Tree) (rest : List Tree) (o : Option ValueType) → parts tree ≡ tree ∷ rest → type_in tree types ≡ o → list_all typed (operands tree) ≡ true → next ≡ n + 1 + length rest → first (n + 1) rest ≡ None → Agrees n tree (root_gives o n next)
  root_agrees n next tree rest (Some ty) q h t l g =
      (h, l ∙ simp q (omega arith), ap (first n) q ∙ clean n tree rest ty h g)
  root_agrees n next tree rest None q h t l g = (h, ap (first n) q ∙ wrong n tree rest h t)

  above_agrees : (n k : ℕ) (tree : Tree) (rest : List Tree) → parts tree ≡ tree ∷ rest → type_in tree types ≡ None → list_all typed (operands tree) ≡ false → first (n + 1) rest ≡ Some k → Agrees n tree (Err (record { node = k }))
  above_agrees n k tree rest q h t g = (h, ap (first n) q ∙ above n k tree rest t g)

  one_agrees : (n : ℕ) (tree a : Tree) (takes gives : ValueType) (r : Typing) → parts tree ≡ tree ∷ parts a → operands tree ≡ a ∷ [] → type_in tree types ≡ option_and_then (converted takes gives) (type_in a types) → Agrees (n + 1) a r → Agrees n tree (one_typed takes gives n r)
  one_agrees n tree a takes gives (Ok x) q o h g =
      root_agrees n x.1 tree (parts a) (converted takes gives x.0) q (h ∙ ap (option_and_then (converted takes gives)) g.0)
      (ap (list_all typed) o ∙ ap (λ (t : Option ValueType). is_some t && true) g.0) g.1 g.2
  one_agrees n tree a takes gives (Err e) q o h g =
      above_agrees n e.node tree (parts a) q (h ∙ ap (option_and_then (converted takes gives)) g.0)
      (ap (list_all typed) o ∙ ap (λ (t : Option ValueType). is_some t && true) g.0) g.1

  -- the operands so far have types, and the node behind them has the number m
  record SoFar (n m : ℕ) (rest : List Tree) : Type 0 where
    none : first n rest ≡ None
    behind : m ≡ n + length rest

  one_so_far : (n : ℕ) (a : Tree) (x : ValueType × ℕ) → Agrees n a (Ok x) → SoFar n x.1 (parts a)
  one_so_far n a x g = record { none = g.2; behind = g.1 }

  more_so_far : (n m : ℕ) (rest : List Tree) (a : Tree) (x : ValueType × ℕ) → SoFar n m rest → Agrees m a (Ok x) → SoFar n x.1 (rest ++ parts a)
  more_so_far n m rest a x s g = record {
    none = past_none (is_mistyped types) n rest (parts a) s.none ∙ ap (λ (k : ℕ). first k (parts a)) (sym s.behind) ∙ g.2;
    behind = g.1 ∙ omega (arith, s.behind, length-append rest (parts a));
  }

  next_fails : (n m : ℕ) (rest : List Tree) (a : Tree) (e : TypeErrorAt) → SoFar n m rest → Agrees m a (Err e) → first n (rest ++ parts a) ≡ Some e.node
  next_fails n m rest a e s g = past_none (is_mistyped types) n rest (parts a) s.none ∙ ap (λ (k : ℕ). first k (parts a)) (sym s.behind) ∙ g.1

  pair_second : (n : ℕ) (op : Op) (a b : Tree) (x : ValueType × ℕ) (r : Typing) → Agrees (n + 1) a (Ok x) → Agrees x.1 b r
      → Agrees n (pair op a b) (typing_then r (λ y. root_gives (pair_type op x.0 y.0) n y.1))
  pair_second n op a b x (Ok y) f g =
      let s = more_so_far (n + 1) x.1 (parts a) b y (one_so_far (n + 1) a x f) g in
      root_agrees n y.1 (pair op a b) (parts a ++ parts b) (pair_type op x.0 y.0) refl
      (λ i. option_and_then (λ z. option_and_then (pair_type op z) (g.0 i)) (f.0 i))
      (λ i. is_some (f.0 i) && (is_some (g.0 i) && true)) s.behind s.none
  pair_second n op a b x (Err e) f g =
      above_agrees n e.node (pair op a b) (parts a ++ parts b) refl
      (λ i. option_and_then (λ z. option_and_then (pair_type op z) (g.0 i)) (f.0 i))
      (λ i. is_some (f.0 i) && (is_some (g.0 i) && true)) (next_fails (n + 1) x.1 (parts a) b e (one_so_far (n + 1) a x f) g)

  pair_first : (n : ℕ) (op : Op) (a b : Tree) (r : Typing) → Agrees (n + 1) a r → ((m : ℕ) → Agrees m b (typed_from types m b))
      → Agrees n (pair op a b) (typing_then r (λ x. typing_then (typed_from types x.1 b) (λ y. root_gives (pair_type op x.0 y.0) n y.1)))
  pair_first n op a b (Ok x) f g = pair_second n op a b x (typed_from types x.1 b) f (g x.1)
  pair_first n op a b (Err e) f g =
      above_agrees n e.node (pair op a b) (parts a ++ parts b) refl
      (λ i. option_and_then (λ z. option_and_then (pair_type op z) (type_in b types)) (f.0 i))
      (λ i. is_some (f.0 i) && (typed b && true)) (found_first (is_mistyped types) (n + 1) e.node (parts a) (parts b) f.1)

  choice_third : (n : ℕ) (c a b : Tree) (z x : ValueType × ℕ) (r : Typing) → Agrees (n + 1) c (Ok z) → Agrees z.1 a (Ok x) → Agrees x.1 b r
      → Agrees n (choice c a b) (typing_then r (λ y. root_gives (choice_type z.0 x.0 y.0) n y.1))
  choice_third n c a b z x (Ok y) e f g =
      let s = more_so_far (n + 1) x.1 (parts c ++ parts a) b y (more_so_far (n + 1) z.1 (parts c) a x (one_so_far (n + 1) c z e) f) g in
      root_agrees n y.1 (choice c a b) (parts c ++ parts a ++ parts b) (choice_type z.0 x.0 y.0) refl
      (λ i. option_and_then (λ t. option_and_then (λ u. option_and_then (choice_type t u) (g.0 i)) (f.0 i)) (e.0 i))
      (λ i. is_some (e.0 i) && (is_some (f.0 i) && (is_some (g.0 i) && true))) s.behind s.none
  choice_third n c a b z x (Err k) e f g =
      above_agrees n k.node (choice c a b) (parts c ++ parts a ++ parts b) refl
      (λ i. option_and_then (λ t. option_and_then (λ u. option_and_then (choice_type t u) (g.0 i)) (f.0 i)) (e.0 i))
      (λ i. is_some (e.0 i) && (is_some (f.0 i) && (is_some (g.0 i) && true)))
      (next_fails (n + 1) x.1 (parts c ++ parts a) b k (more_so_far (n + 1) z.1 (parts c) a x (one_so_far (n + 1) c z e) f) g)

  choice_second : (n : ℕ) (c a b : Tree) (z : ValueType × ℕ) (r : Typing) → Agrees (n + 1) c (Ok z) → Agrees z.1 a r → ((m : ℕ) → Agrees m b (typed_from types m b))
      → Agrees n (choice c a b) (typing_then r (λ x. typing_then (typed_from types x.1 b) (λ y. root_gives (choice_type z.0 x.0 y.0) n y.1)))
  choice_second n c a b z (Ok x) e f g = choice_third n c a b z x (typed_from types x.1 b) e f (g x.1)
  choice_second n c a b z (Err k) e f g =
      above_agrees n k.node (choice c a b) (parts c ++ parts a ++ parts b) refl
      (λ i. option_and_then (λ t. option_and_then (λ u. option_and_then (choice_type t u) (type_in b types)) (f.0 i)) (e.0 i))
      (λ i. is_some (e.0 i) && (is_some (f.0 i) && (typed b && true)))
      (found_first (is_mistyped types) (n + 1) k.node (parts c ++ parts a) (parts b) (next_fails (n + 1) z.1 (parts c) a k (one_so_far (n + 1) c z e) f))

  choice_first : (n : ℕ) (c a b : Tree) (r : Typing) → Agrees (n + 1) c r → ((m : ℕ) → Agrees m a (typed_from types m a)) → ((m : ℕ) → Agrees m b (typed_from types m b))
      → Agrees n (choice c a b) (typing_then r (λ z. typing_then (typed_from types z.1 a) (λ x. typing_then (typed_from types x.1 b) (λ y. root_gives (choice_type z.0 x.0 y.0) n y.1))))
  choice_first n c a b (Ok z) e f g = choice_second n c a b z (typed_from types z.1 a) e (f z.1) g
  choice_first n c a b (Err k) e f g =
      above_agrees n k.node (choice c a b) (parts c ++ parts a ++ parts b) refl
      (λ i. option_and_then (λ t. option_and_then (λ u. option_and_then (choice_type t u) (type_in b types)) (type_in a types)) (e.0 i))
      (λ i. is_some (e.0 i) && (typed a && (typed b && true)))
      (found_first (is_mistyped types) (n + 1) k.node (parts c ++ parts a) (parts b) (found_first (is_mistyped types) (n + 1) k.node (parts c) (parts a) e.1))

  leaf_agrees : (n : ℕ) (tree : Tree) (o : Option ValueType) → parts tree ≡ tree ∷ [] → operands tree ≡ [] → type_in tree types ≡ o → Agrees n tree (root_gives o n (n + 1))
  leaf_agrees n tree o q p h = root_agrees n (n + 1) tree [] o q h (ap (list_all typed) p) (omega arith) refl

  pub typed_agrees : (n : ℕ) (tree : Tree) → Agrees n tree (typed_from types n tree)
  typed_agrees n (number z) = leaf_agrees n (number z) (Some Int) refl refl refl
  typed_agrees n (words text) = leaf_agrees n (words text) (Some Text) refl refl refl
  typed_agrees n (given k) = leaf_agrees n (given k) (slice_get types k) refl refl refl
  typed_agrees n (negated a) = one_agrees n (negated a) a Int Int (typed_from types (n + 1) a) refl refl refl (typed_agrees (n + 1) a)
  typed_agrees n (denied a) = one_agrees n (denied a) a Int Int (typed_from types (n + 1) a) refl refl refl (typed_agrees (n + 1) a)
  typed_agrees n (pair op a b) = pair_first n op a b (typed_from types (n + 1) a) (typed_agrees (n + 1) a) (λ m. typed_agrees m b)
  typed_agrees n (choice c a b) = choice_first n c a b (typed_from types (n + 1) c) (typed_agrees (n + 1) c) (λ m. typed_agrees m a) (λ m. typed_agrees m b)
  typed_agrees n (len_of a) = one_agrees n (len_of a) a Text Int (typed_from types (n + 1) a) refl refl refl (typed_agrees (n + 1) a)
  typed_agrees n (number_of a) = one_agrees n (number_of a) a Text Int (typed_from types (n + 1) a) refl refl refl (typed_agrees (n + 1) a)
  typed_agrees n (text_of a) = one_agrees n (text_of a) a Int Text (typed_from types (n + 1) a) refl refl refl (typed_agrees (n + 1) a)
  typed_agrees n sum_of_members = leaf_agrees n sum_of_members (Some Int) refl refl refl
  typed_agrees n count_of_members = leaf_agrees n count_of_members (Some Int) refl refl refl
  typed_agrees n least_member = leaf_agrees n least_member (Some Int) refl refl refl
  typed_agrees n greatest_member = leaf_agrees n greatest_member (Some Int) refl refl refl
