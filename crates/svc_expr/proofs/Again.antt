-- What is printed is read again.
use Rattle.std.proofs.Common.{◌≡◌, ℕ, ◌≤◌, ◌*◌, Bool, true, false, List, [], ◌∷◌, ◌++◌, map, All, append_assoc, refl, sym, ap, subst, ◌∙◌, arith, length, Result, Ok, Err, OnOk}
use Rattle.std.specs.Prelude.{pos, negsuc}
use Rattle.std.proofs.lemmas.List.{append-nil, map-append}
use Rattle.std.proofs.lemmas.List.Elements.{All-get_or}
use Rattle.svc_token.specs.declared.keyword.Keyword.TheVariants as keyword
use Rattle.svc_token.specs.declared.token.Token.{Token}
use Rattle.svc_token.specs.declared.token.Token.TheVariants.{Keyword as Word, Close}
use Rattle.svc_token.specs.Word.{IsName}
use Rattle.svc_expr.specs.declared.expr.Op.{Op}
use Rattle.svc_expr.specs.declared.expr.Op.TheVariants as op
use Rattle.svc_expr.specs.Tree.{Tree, number, words, given, negated, denied, pair, choice, len_of, number_of, text_of, sum_of_members, count_of_members, least_member, greatest_member, depth, IsSmall}
use Rattle.svc_expr.specs.Types.{mentions, name_count}
use Rattle.svc_expr.specs.Canonical.{has_bracket, name_at, canonical_text, IsWritable, IsWithin, IsInOrder}
use Rattle.svc_expr.specs.Grammar.{with_names, names_among, IsReading}
use Rattle.svc_expr.proofs.NameLemmas.{Names, AreDistinct, apart}
use Rattle.svc_expr.proofs.Spelled.{sign_of, in_brackets_if, canon, room, to_whole, spells}
use Rattle.svc_expr.proofs.Written.{written}

sign_is : (o : Op) (ts : List Token) → names_among (sign_of o ∷ ts) ≡ names_among ts
sign_is op.Add ts = refl
sign_is op.Sub ts = refl
sign_is op.Mul ts = refl
sign_is op.Div ts = refl
sign_is op.Rem ts = refl
sign_is op.Join ts = refl
sign_is op.Eq ts = refl
sign_is op.Ne ts = refl
sign_is op.Lt ts = refl
sign_is op.Le ts = refl
sign_is op.Gt ts = refl
sign_is op.Ge ts = refl
sign_is op.And ts = refl
sign_is op.Or ts = refl

module _ (names : Names) where
  abbrev named_by : List ℕ → Names
  named_by ks = map (name_at names) ks

  bracket_names : (b : Bool) (f : List Token → List Token) (ks : List ℕ) (rest : List Token) → ((us : List Token) → names_among (f us) ≡ named_by ks ++ names_among us) → names_among (in_brackets_if b f rest) ≡ named_by ks ++ names_among rest
  bracket_names true f ks rest h = h rest
  bracket_names false f ks rest h = h (Close ∷ rest)

  join_names : (xs ys : List ℕ) (us : Names) → named_by xs ++ (named_by ys ++ us) ≡ named_by (xs ++ ys) ++ us
  join_names xs ys us = sym (append_assoc (named_by xs) (named_by ys) us) ∙ ap (λ (l : Names). l ++ us) (sym (map-append (name_at names) xs ys))

  -- the canonical tokens name what the tree mentions
  canon_names : (e : Tree) (rest : List Token) → names_among (canon names e rest) ≡ named_by (mentions e) ++ names_among rest
  unfolding canon
  canon_names (number (pos n)) rest = refl
  canon_names (number (negsuc n)) rest = refl
  canon_names (words text) rest = refl
  canon_names (given k) rest = refl
  canon_names (negated a) rest = bracket_names (has_bracket a) (canon names a) (mentions a) rest (canon_names a)
  canon_names (denied a) rest = bracket_names (has_bracket a) (canon names a) (mentions a) (Close ∷ rest) (canon_names a)
  canon_names (pair o a b) rest =
      canon_names a (sign_of o ∷ canon names b (Close ∷ rest))
      ∙ ap (λ (l : Names). named_by (mentions a) ++ l) (sign_is o (canon names b (Close ∷ rest)) ∙ canon_names b (Close ∷ rest))
      ∙ join_names (mentions a) (mentions b) (names_among rest)
  canon_names (choice c a b) rest =
      canon_names c (Word keyword.Then ∷ canon names a (Word keyword.Else ∷ canon names b (Close ∷ rest)))
      ∙ ap (λ (l : Names). named_by (mentions c) ++ l) (canon_names a (Word keyword.Else ∷ canon names b (Close ∷ rest)) ∙ ap (λ (l : Names). named_by (mentions a) ++ l) (canon_names b (Close ∷ rest)))
      ∙ join_names (mentions c) (mentions a) (named_by (mentions b) ++ names_among rest)
      ∙ join_names (mentions c ++ mentions a) (mentions b) (names_among rest)
  canon_names (len_of a) rest = canon_names a (Close ∷ rest)
  canon_names (number_of a) rest = canon_names a (Close ∷ rest)
  canon_names (text_of a) rest = canon_names a (Close ∷ rest)
  canon_names sum_of_members rest = refl
  canon_names count_of_members rest = refl
  canon_names least_member rest = refl
  canon_names greatest_member rest = refl

text_room : (b : Bool) (n : ℕ) → n ≤ 32 → 2 * n ≤ room b 64
text_room true n h = omega arith
text_room false n h = omega arith

-- a tree within the limits of its leaves can be written with as many names as it counts
writable : (names : Names) (e : Tree) → name_count e ≤ length names → IsWithin e → IsWritable names e
writable names (number (pos n)) h w = omega (arith, w.sfits)
writable names (number (negsuc n)) h w = omega (arith, w.sfits)
writable names (words text) h w = w
writable names (given k) h w = omega arith
writable names (negated a) h w = writable names a h w
writable names (denied a) h w = writable names a h w
writable names (pair o a b) h w = (writable names a (omega arith) w.0, writable names b (omega arith) w.1)
writable names (choice c a b) h w = (writable names c (omega arith) w.0, writable names a (omega arith) w.1, writable names b (omega arith) w.2)
writable names (len_of a) h w = writable names a h w
writable names (number_of a) h w = writable names a h w
writable names (text_of a) h w = writable names a h w
writable names sum_of_members h w = tt
writable names count_of_members h w = tt
writable names least_member h w = tt
writable names greatest_member h w = tt

-- the canonical text is read as the tree and its names
pub read_again : (names : Names) (e : Tree) → All IsName names → name_count e ≤ length names → IsInOrder names e → IsWithin e → IsSmall e → IsReading (canonical_text names e) e names
read_again names e are count order within small =
    let w = writable names e count within in
    let each : AreDistinct names = subst AreDistinct order (apart [] (map (name_at names) (mentions e)) (λ k l. absurd (omega arith))) in (
      canon names e [],
      written names e (λ k l. All-get_or IsName names k [] l are) w,
      (
        sym (ap (with_names []) (canon_names names e [] ∙ append-nil (map (name_at names) (mentions e))) ∙ order),
        to_whole names each (spells names each e 64 [] w (text_room (has_bracket e) (depth e) small.1)),
      ),
    )

-- what follows from a fact on success
pub on_ok : {T E : Type 0} → (r : Result T E) (P Q : Type 0) → (P → Q) → OnOk r P → OnOk r Q
on_ok (Ok x) P Q f h = f h
on_ok (Err e) P Q f h = tt
