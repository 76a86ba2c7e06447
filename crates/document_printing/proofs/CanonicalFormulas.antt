-- A printed formula is an expression with its members.
use Rattle.std.proofs.Common.{◌≡◌, ℕ, ◌<◌, ◌≤◌, Bool, true, false, List, [], ◌∷◌, ◌++◌, length, All, refl, sym, ap, subst, ◌∙◌, arith}
use Rattle.std.specs.Prelude.{pos, negsuc}
use Rattle.std.proofs.lemmas.List.{append-nil}
use Rattle.svc_expr.specs.declared.expr.Expr.{Expr}
use Rattle.svc_expr.specs.Tree.{Tree, number, words, given, negated, denied, pair, choice, len_of, number_of, text_of, sum_of_members, count_of_members, least_member, greatest_member, tree_of, IsSmall}
use Rattle.svc_expr.specs.Types.{name_count}
use Rattle.svc_expr.specs.Canonical.{has_bracket, name_at, canonical_text as expression_text, IsWithin, IsWritable, IsInOrder}
use Rattle.svc_expr.specs.Grammar.{IsExpression}
use Rattle.svc_expr.proofs.Again.{read_again}
use Rattle.svc_expr.proofs.Spelled.{sign_of, in_brackets_if, canon}
use Rattle.svc_expr.proofs.Written.{written}
use Rattle.svc_token.specs.declared.keyword.Keyword.TheVariants as keyword
use Rattle.svc_token.specs.declared.token.Token.{Token}
use Rattle.svc_token.specs.declared.token.Token.TheVariants.{Keyword, Open, Close, Minus}
use Rattle.svc_token.specs.Cutting.{begins, Cuts, ends}
use Rattle.svc_token.specs.Word.{is_word_byte, IsName}
use Rattle.svc_token.proofs.CutLemmas.{one_cut}
use Rattle.document_reading.specs.declared.statement.Body.TheVariants.{Formula}
use Rattle.document_reading.specs.declared.statement.Body.{Body}
use Rattle.document_reading.specs.Grammar.{IsBody, small, alone, over}
use Rattle.document_printing.specs.Canonical.{over_text}
use Rattle.document_printing.proofs.CanonicalCuts.{over_word, tree_cut, members_cut}

-- ---- canonical tokens in front of others

bracketed_append : (b : Bool) (f : List Token → List Token) (ts us : List Token) → ((vs : List Token) → f vs ++ us ≡ f (vs ++ us)) → in_brackets_if b f ts ++ us ≡ in_brackets_if b f (ts ++ us)
bracketed_append true f ts us h = h ts
bracketed_append false f ts us h = ap (λ (l : List Token). Open ∷ l) (h (Close ∷ ts))

module _ (names : List (List ℕ)) (us : List Token) where
  canon_append : (e : Tree) (ts : List Token) → canon names e ts ++ us ≡ canon names e (ts ++ us)
  unfolding canon
  canon_append (number (pos n)) ts = refl
  canon_append (number (negsuc n)) ts = refl
  canon_append (words text) ts = refl
  canon_append (given k) ts = refl
  canon_append (negated a) ts = ap (λ (l : List Token). Minus ∷ l) (bracketed_append (has_bracket a) (canon names a) ts us (canon_append a))
  canon_append (denied a) ts = ap (λ (l : List Token). Open ∷ Keyword keyword.Not ∷ l) (bracketed_append (has_bracket a) (canon names a) (Close ∷ ts) us (canon_append a))
  canon_append (pair op a b) ts =
      ap (λ (l : List Token). Open ∷ l) (canon_append a (sign_of op ∷ canon names b (Close ∷ ts)) ∙ ap (λ (l : List Token). canon names a (sign_of op ∷ l)) (canon_append b (Close ∷ ts)))
  canon_append (choice c a b) ts =
      let last = canon_append b (Close ∷ ts) in
      let middle = canon_append a (Keyword keyword.Else ∷ canon names b (Close ∷ ts)) ∙ ap (λ (l : List Token). canon names a (Keyword keyword.Else ∷ l)) last in
      ap (λ (l : List Token). Open ∷ Keyword keyword.If ∷ l)
      (canon_append c (Keyword keyword.Then ∷ canon names a (Keyword keyword.Else ∷ canon names b (Close ∷ ts))) ∙ ap (λ (l : List Token). canon names c (Keyword keyword.Then ∷ l)) middle)
  canon_append (len_of a) ts = ap (λ (l : List Token). Keyword keyword.Len ∷ Open ∷ l) (canon_append a (Close ∷ ts))
  canon_append (number_of a) ts = ap (λ (l : List Token). Keyword keyword.Number ∷ Open ∷ l) (canon_append a (Close ∷ ts))
  canon_append (text_of a) ts = ap (λ (l : List Token). Keyword keyword.Text ∷ Open ∷ l) (canon_append a (Close ∷ ts))
  canon_append sum_of_members ts = refl
  canon_append count_of_members ts = refl
  canon_append least_member ts = refl
  canon_append greatest_member ts = refl

-- ---- expressions

-- a tree with its names, as they stand in an accepted line
pub record IsReadable (names : List (List ℕ)) (e : Tree) : Type 0 where
  pub are_names : All IsName names
  pub count : name_count e ≤ length names
  pub order : IsInOrder names e
  pub within : IsWithin e
  pub small : IsSmall e

-- a tree within the limits of its leaves can be written with as many names as it counts
writable : (names : List (List ℕ)) (e : Tree) → name_count e ≤ length names → IsWithin e → IsWritable names e
writable names (number (pos n)) h w = omega (arith, w.sfits)
writable names (number (negsuc n)) h w = omega (arith, w.sfits)
writable names (words text) h w = w
writable names (given k) h w = omega arith
writable names (negated a) h w = writable names a h w
writable names (denied a) h w = writable names a h w
writable names (pair o a b) h w = (writable names a (omega arith) w.0, writable names b (omega arith) w.1)
writable names (choice c a b) h w = (writable names c (omega arith) w.0, writable names a (omega arith) w.1, writable names b (omega arith) w.2)
writable names (len_of a) h w = writable names a h w
writable names (number_of a) h w = writable names a h w
writable names (text_of a) h w = writable names a h w
writable names sum_of_members h w = tt
writable names count_of_members h w = tt
writable names least_member h w = tt
writable names greatest_member h w = tt

module _ (names : List (List ℕ)) (e : Tree) (can : IsReadable names e) where
  pub each_name : (k : ℕ) → k < length names → IsName (name_at names k)
  each_name k l = can.are_names k [] l

  pub written_with : IsWritable names e
  written_with = writable names e can.count can.within

  expression_is : IsExpression (canon names e []) e names
  expression_is =
      let again = read_again names e can.are_names can.count can.order can.within can.small in
      subst (λ tokens. IsExpression tokens e names)
      (one_cut (expression_text names e) again.0 (canon names e []) again.1 (written names e each_name written_with)) again.2

  expression_cut : (rest : List ℕ) (tokens : List Token) → begins is_word_byte rest ≡ false → Cuts rest tokens → Cuts (expression_text names e ++ rest) (canon names e [] ++ tokens)
  expression_cut rest tokens apart s = subst (Cuts (expression_text names e ++ rest)) (sym (canon_append names tokens e [])) (tree_cut names each_name e written_with rest tokens apart s)

-- ---- formulas

-- what a line says of a formula
abbrev pub body_of : List (List ℕ) → Expr → List (List ℕ) → Body
body_of names expr members = Formula (record { expr = expr; names = names; members = members })

-- the tokens of a printed formula
abbrev pub IsSaid : List (List ℕ) → Expr → List (List ℕ) → Type 0
IsSaid names expr members = (tokens : List Token) × Cuts (expression_text names (tree_of expr) ++ over_text members) tokens × IsBody tokens (body_of names expr members)

pub formula_said : (names : List (List ℕ)) (expr : Expr) (members : List (List ℕ)) → IsReadable names (tree_of expr) → All IsName members → IsSaid names expr members
formula_said names expr [] can are =
    let e = tree_of expr in
    (canon names e [] ++ [], expression_cut names e can [] [] refl ends, alone (small (subst (λ tokens. IsExpression tokens e names) (sym (append-nil (canon names e []))) (expression_is names e can)) can.small))
formula_said names expr (first ∷ others) can are =
    let e = tree_of expr in
    let behind = members_cut first others are in
    (canon names e [] ++ Keyword keyword.Over ∷ behind.0, expression_cut names e can _ (Keyword keyword.Over ∷ behind.0) refl (over_word behind.1), over (small (expression_is names e can) can.small) behind.2)
