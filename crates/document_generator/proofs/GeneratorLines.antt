-- What the generated lines say.
use Rattle.std.proofs.Common.{◌≡◌, ℕ, ◌<◌, Bool, true, false, List, [], ◌∷◌, ◌++◌, map, append_assoc, refl, sym, ap, ◌∙◌, subst, arith}
use Rattle.std.specs.Prelude.{pos, ◌==◌, codes, if◌then◌else◌}
use Rattle.svc_expr.specs.declared.expr.Expr.{Expr}
use Rattle.svc_expr.specs.declared.expr.ExprKind.TheVariants as kind
use Rattle.svc_expr.specs.declared.expr.ExprKind.TheVariants.{rolls-Sum}
use Rattle.svc_expr.specs.declared.expr.ExprKind.TheFolds.{fold-ExprKind, fold-roll-ExprKind, fold-roll-Expr}
use Rattle.svc_expr.specs.declared.expr.ExprKind.TheOpen.{ExprKind-F}
use Rattle.svc_expr.specs.Grammar.{IsExpression, member_call, as_tighter}
use Rattle.svc_expr.specs.Tree.{Tree, tree_of, tree_step, sum_of_members, IsSmall}
use Rattle.svc_token.specs.declared.keyword.Keyword.TheVariants as keyword
use Rattle.svc_token.specs.declared.token.Token.{Token}
use Rattle.svc_token.specs.declared.token.Token.TheVariants.{Keyword as Word, Name, Number, Open, Close, Colon, Comma, Equals}
use Rattle.svc_token.specs.Keyword.{keyword_of}
use Rattle.svc_token.specs.Cutting.{word_token, mark_at, front, Cuts, ends, blank, token}
use Rattle.svc_value.specs.declared.value.Value.TheVariants.{Int}
use Rattle.svc_value.specs.declared.value.ValueType.TheVariants as type
use Rattle.document_reading.specs.declared.statement.Body.TheVariants.{Formula}
use Rattle.document_reading.specs.declared.statement.Statement.{Statement}
use Rattle.document_reading.specs.declared.statement.Statement.TheVariants.{Input, Derived, Set, Add, Drop, Settle}
use Rattle.document_reading.specs.Grammar.{Says, spoken, input, derived, set, add, drop, settle, whole, int, small, over, AreMembers, last, more}
use Rattle.document_generator.specs.Generator.{number_text, input_name, derived_name, service_name, pair_text, input_line, derived_line, set_line, add_line, drop_line}
use Rattle.document_generator.proofs.GeneratorTokens.{number_cut, last_number, input_named, derived_named, service_named, name_cut, last_name}

-- ---- words and marks

input_word : (rest : List ℕ) (ts : List Token) → Cuts rest ts → Cuts (codes "input " ++ rest) (Word keyword.Input ∷ ts)
unfolding front word_token keyword_of
input_word rest ts s = token {n = 5} refl (blank refl s)

derived_word : (rest : List ℕ) (ts : List Token) → Cuts rest ts → Cuts (codes "derived " ++ rest) (Word keyword.Derived ∷ ts)
unfolding front word_token keyword_of
derived_word rest ts s = token {n = 7} refl (blank refl s)

set_word : (rest : List ℕ) (ts : List Token) → Cuts rest ts → Cuts (codes "set " ++ rest) (Word keyword.Set ∷ ts)
unfolding front word_token keyword_of
set_word rest ts s = token {n = 3} refl (blank refl s)

add_word : (rest : List ℕ) (ts : List Token) → Cuts rest ts → Cuts (codes "add " ++ rest) (Word keyword.Add ∷ ts)
unfolding front word_token keyword_of
add_word rest ts s = token {n = 3} refl (blank refl s)

drop_word : (rest : List ℕ) (ts : List Token) → Cuts rest ts → Cuts (codes "drop " ++ rest) (Word keyword.Drop ∷ ts)
unfolding front word_token keyword_of
drop_word rest ts s = token {n = 4} refl (blank refl s)

typed : (rest : List ℕ) (ts : List Token) → Cuts rest ts → Cuts (codes " : int = " ++ rest) (Colon ∷ Word keyword.Int ∷ Equals ∷ ts)
unfolding front mark_at word_token keyword_of
typed rest ts s = blank refl (token {n = 1} refl (blank refl (token {n = 3} refl (blank refl (token {n = 1} refl (blank refl s))))))

ranked : (rest : List ℕ) (ts : List Token) → Cuts rest ts → Cuts (codes " : int rank " ++ rest) (Colon ∷ Word keyword.Int ∷ Word keyword.Rank ∷ ts)
unfolding front mark_at word_token keyword_of
ranked rest ts s = blank refl (token {n = 1} refl (blank refl (token {n = 3} refl (blank refl (token {n = 4} refl (blank refl s))))))

summed : (rest : List ℕ) (ts : List Token) → Cuts rest ts
    → Cuts (codes " = sum() over " ++ rest) (Equals ∷ Word keyword.Sum ∷ Open ∷ Close ∷ Word keyword.Over ∷ ts)
unfolding front mark_at word_token keyword_of
summed rest ts s = blank refl (token {n = 1} refl (blank refl (token {n = 3} refl (token {n = 1} refl (token {n = 1} refl (blank refl (token {n = 4} refl (blank refl s))))))))

equals : (rest : List ℕ) (ts : List Token) → Cuts rest ts → Cuts (codes " = " ++ rest) (Equals ∷ ts)
unfolding front mark_at
equals rest ts s = blank refl (token {n = 1} refl (blank refl s))

comma : (rest : List ℕ) (ts : List Token) → Cuts rest ts → Cuts (codes ", " ++ rest) (Comma ∷ ts)
unfolding front mark_at
comma rest ts s = token {n = 1} refl (blank refl s)

-- ---- lines

three : (a b c : List ℕ) → a ++ b ++ c ≡ a ++ (b ++ c)
three a b c = append_assoc a b c

four : (a b c d : List ℕ) → a ++ b ++ c ++ d ≡ a ++ (b ++ (c ++ d))
four a b c d = simp append_assoc

six : (a b c d e f : List ℕ) → a ++ b ++ c ++ d ++ e ++ f ≡ a ++ (b ++ (c ++ (d ++ (e ++ f))))
six a b c d e f = simp append_assoc

pub input_said : (k v : ℕ) → k < 1000 → v < 1000 → Says (input_line k v) (Input (input_name k) type.Int (Int (pos v)))
input_said k v hk hv =
    spoken refl
    (subst (λ (l : List ℕ). Cuts l (Word keyword.Input ∷ Name (input_name k) ∷ Colon ∷ Word keyword.Int ∷ Equals ∷ Number v ∷ []))
    (sym (four (codes "input ") (input_name k) (codes " : int = ") (number_text v)))
    (input_word _ _ (name_cut (input_name k) _ _ (input_named k hk) refl (typed _ _ (last_number v (omega arith))))))
    (input int (whole (omega arith)))

pub set_said : (k v : ℕ) → k < 1000 → v < 1000 → Says (set_line k v) (Set (input_name k) (Int (pos v)))
set_said k v hk hv =
    spoken refl
    (subst (λ (l : List ℕ). Cuts l (Word keyword.Set ∷ Name (input_name k) ∷ Equals ∷ Number v ∷ []))
    (sym (four (codes "set ") (input_name k) (codes " = ") (number_text v)))
    (set_word _ _ (name_cut (input_name k) _ _ (input_named k hk) refl (equals _ _ (last_number v (omega arith))))))
    (set (whole (omega arith)))

pub add_said : (inputs j q : ℕ) → j < 1000 → q < 999 → Says (add_line inputs j q) (Add (derived_name j) (service_name inputs q))
add_said inputs j q hj hq =
    spoken refl
    (subst (λ (l : List ℕ). Cuts l (Word keyword.Add ∷ Name (derived_name j) ∷ Name (service_name inputs q) ∷ []))
    (sym (four (codes "add ") (derived_name j) (codes " ") (service_name inputs q)))
    (add_word _ _ (name_cut (derived_name j) _ _ (derived_named j hj) refl (blank refl (last_name (service_name inputs q) (service_named inputs q hq))))))
    add

pub drop_said : (inputs j q : ℕ) → j < 1000 → q < 999 → Says (drop_line inputs j q) (Drop (derived_name j) (service_name inputs q))
drop_said inputs j q hj hq =
    spoken refl
    (subst (λ (l : List ℕ). Cuts l (Word keyword.Drop ∷ Name (derived_name j) ∷ Name (service_name inputs q) ∷ []))
    (sym (four (codes "drop ") (derived_name j) (codes " ") (service_name inputs q)))
    (drop_word _ _ (name_cut (derived_name j) _ _ (derived_named j hj) refl (blank refl (last_name (service_name inputs q) (service_named inputs q hq))))))
    drop

pub settle_said : Says (codes "settle") Settle
unfolding front word_token keyword_of
settle_said = spoken refl (token {n = 6} refl ends) settle

-- ---- derived services

-- the sum of the members
abbrev pub member_sum : Expr
member_sum = record { kind = kind.Sum }

-- two members, or one where both are the same
abbrev pub pair_of : ℕ → ℕ → List ℕ
pair_of p q = if p == q then p ∷ [] else p ∷ q ∷ []

-- the sum over services, by their names
abbrev pub sum_over : ℕ → ℕ → List ℕ → Statement
sum_over inputs j members = Derived (derived_name j) type.Int j (Formula (record { expr = member_sum; names = []; members = map (service_name inputs) members }))

-- names that are members of a line are cut so from their text
record HasTokens (text : List ℕ) (names : List (List ℕ)) : Type 0 where
  tokens : List Token
  cut : Cuts text tokens
  members : AreMembers tokens names

pair_tokens : (inputs p q : ℕ) → p < 999 → q < 999 → HasTokens (pair_text inputs p q) (map (service_name inputs) (pair_of p q))
pair_tokens inputs p q hp hq = by_test (p == q)
  where
    by_test : (test : Bool) → HasTokens (if test then service_name inputs p else service_name inputs p ++ codes ", " ++ service_name inputs q)
        (map (service_name inputs) (if test then p ∷ [] else p ∷ q ∷ []))
    by_test true = record { tokens = Name (service_name inputs p) ∷ []; cut = last_name (service_name inputs p) (service_named inputs p hp); members = last }
    by_test false = record {
      tokens = Name (service_name inputs p) ∷ Comma ∷ Name (service_name inputs q) ∷ [];
      cut = subst (λ (l : List ℕ). Cuts l (Name (service_name inputs p) ∷ Comma ∷ Name (service_name inputs q) ∷ []))
          (sym (three (service_name inputs p) (codes ", ") (service_name inputs q)))
          (name_cut (service_name inputs p) _ _ (service_named inputs p hp) refl (comma _ _ (last_name (service_name inputs q) (service_named inputs q hq))));
      members = more last;
    }

-- its tree
pub sum_tree : tree_of member_sum ≡ sum_of_members
sum_tree =
    fold-roll-Expr Tree Tree tree_step (λ e. e.kind) (record { kind = kind.Sum })
    ∙ ap (fold-ExprKind Tree Tree tree_step (λ e. e.kind)) (sym rolls-Sum)
    ∙ fold-roll-ExprKind Tree Tree tree_step (λ e. e.kind) ExprKind-F.Sum

sum_spelled : IsExpression (Word keyword.Sum ∷ Open ∷ Close ∷ []) (tree_of member_sum) []
sum_spelled =
    subst (λ (t : Tree). IsExpression (Word keyword.Sum ∷ Open ∷ Close ∷ []) t []) (sym sum_tree)
    (refl, as_tighter (as_tighter (as_tighter (as_tighter (as_tighter (as_tighter (as_tighter (as_tighter (member_call {word = keyword.Sum} refl)))))))))

sum_small : IsSmall (tree_of member_sum)
sum_small = subst IsSmall (sym sum_tree) (omega arith, omega arith)

pub derived_said : (inputs j p q : ℕ) → j < 1000 → p < 999 → q < 999 → Says (derived_line inputs j p q) (sum_over inputs j (pair_of p q))
derived_said inputs j p q hj hp hq =
    let pair = pair_tokens inputs p q hp hq in
    let ts = Word keyword.Sum ∷ Open ∷ Close ∷ Word keyword.Over ∷ pair.tokens in
    spoken refl
    (subst (λ (l : List ℕ). Cuts l (Word keyword.Derived ∷ Name (derived_name j) ∷ Colon ∷ Word keyword.Int ∷ Word keyword.Rank ∷ Number j ∷ Equals ∷ ts))
    (sym (six (codes "derived ") (derived_name j) (codes " : int rank ") (number_text j) (codes " = sum() over ") (pair_text inputs p q)))
    (derived_word _ _ (name_cut (derived_name j) _ _ (derived_named j hj) refl (ranked _ _ (number_cut j _ _ (omega arith) refl (summed _ _ pair.cut))))))
    (derived int (over (small sum_spelled sum_small) pair.members))
