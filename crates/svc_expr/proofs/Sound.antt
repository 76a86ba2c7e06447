-- What is read is in the grammar.
use Rattle.std.proofs.Common.{◌≡◌, ℕ, zero, suc, ◌^◌, Bool, true, false, cond, ◌⊎◌, inl, inr, List, [], ◌∷◌, length, Option, Some, None, refl, sym, ap, subst, ◌∙◌, ⊎_elim}
use Rattle.std.specs.Prelude.{nat_lt, nat_le, pos, neg_ℤ}
use Rattle.std.proofs.lemmas.Bool.{ltb-true, leb-true}
use Rattle.svc_token.specs.declared.keyword.Keyword.{Keyword}
use Rattle.svc_token.specs.declared.keyword.Keyword.TheVariants as keyword
use Rattle.svc_token.specs.declared.token.Token.{Token}
use Rattle.svc_token.specs.declared.token.Token.TheVariants.{Keyword as Word, Name, Number, Quoted, Open, Close, Minus, Dash}
use Rattle.svc_expr.specs.declared.expr.Op.{Op}
use Rattle.svc_expr.specs.declared.level.Level.{Level}
use Rattle.svc_expr.specs.declared.level.Level.TheVariants.{Whole, Disjunction, Conjunction, Denial, Comparison, Sum, Product, Unary, Operand}
use Rattle.svc_expr.specs.declared.level.Form.{Form}
use Rattle.svc_expr.specs.declared.level.Form.TheVariants as form
use Rattle.svc_expr.specs.declared.level.Aggregate.{Aggregate}
use Rattle.svc_expr.specs.Tree.{Tree, number, words, given, negated, denied, pair, choice}
use Rattle.svc_expr.specs.Quoted.{quoted_meaning}
use Rattle.svc_expr.specs.Grammar.{tighter, joins, IsLeft, formed, aggregated, call_of, aggregate_of, name_index, Spells, whole_number, negative_number, quoted_text, named, in_brackets, call, member_call, negation, joined, comparison, denial, if_then_else, as_tighter}
use Rattle.svc_expr.specs.Reading.{naming, Part, Read, ◌>>=◌, formed_part, pair_part, choice_part, after_close, words_at, negative_at, aggregate_at, called_at, call_at, operand_at, unary_at, with_op, chain, chained, product_at, sum_at, compared_at, comparison_at, denial_at, conjunction_at, disjunction_at, else_at, then_at, whole_at, level_at, inner}
use Rattle.svc_expr.proofs.Sizes.{Keeps}
use Rattle.svc_expr.proofs.Unquoted.{read_is_literal}

abbrev pub Pair : Type 0
Pair = Part × List Token

bind_some : (r : Read) (f : Pair → Read) (y : Pair) → (r >>= f) ≡ Some y → (x : Pair) × (r ≡ Some x) × (f x ≡ Some y)
bind_some (Some x) f y h = (x, refl, h)
bind_some None f y h = absurd (cc)

pub some_is : (x y : Pair) → Some x ≡ Some y → x ≡ y
some_is x y h = cc

guarded : (b : Bool) (x y : Pair) → cond b (Some x) None ≡ Some y → (b ≡ true) × (x ≡ y)
guarded true x y h = (refl, cc)
guarded false x y h = absurd (cc)

with_op_some : (o : Option Op) (r : Read) (f : Op → Read) (y : Pair) → with_op o r f ≡ Some y → ((o ≡ None) × (r ≡ Some y)) ⊎ ((op : Op) × (o ≡ Some op) × (f op ≡ Some y))
with_op_some None r f y h = inl (refl, h)
with_op_some (Some op) r f y h = inr (op, refl, h)

closes : (p : Part) (r : List Token) (y : Pair) → after_close p r ≡ Some y → (r ≡ Close ∷ y.1) × (p ≡ y.0)
closes p (Close ∷ r) y h = let e = some_is (p, r) y h in (ap (λ (z : Pair). Close ∷ z.1) e, ap (λ (z : Pair). z.0) e)
closes p r y h = absurd (cc)

abbrev pub less_one : ℕ → ℕ
less_one zero = zero
less_one (suc d) = d

module _ (keep : Tree → Part) (keeps : Keeps keep) (names : List (List ℕ)) where
  -- what was read, and the tree that it is
  pub record Found (L : Level) (d : ℕ) (ts : List Token) (x : Pair) : Type 0 where
    pub tree : Tree
    pub spelled : Spells names L d ts tree x.1
    pub same : x.0 ≡ keep tree

  -- the same, one level of the text further in
  pub record Entered (L : Level) (d : ℕ) (ts : List Token) (x : Pair) : Type 0 where
    pub level : d ≡ suc (less_one d)
    pub found : Found L (less_one d) ts x

  -- the same tree, seen at another rest
  at_rest : (L : Level) (d : ℕ) (ts us : List Token) (e : Tree) (x : Pair) → Spells names L d ts e us → (part : Part) → part ≡ keep e → (part, us) ≡ x → Found L d ts x
  at_rest L d ts us e x s f q h = subst (Found L d ts) h (record { tree = e; spelled = s; same = q })

  looser : (L : Level) (d : ℕ) (ts : List Token) (x : Pair) → Found (tighter L) d ts x → Found L d ts x
  looser L d ts x f = record { tree = f.tree; spelled = as_tighter f.spelled; same = f.same }

  module _ (d : ℕ) (enter : (L : Level) (ts : List Token) (x : Pair) → (inner keep (naming keep names) d).enter L ts ≡ Some x → Entered L d ts x) (room : (inner keep (naming keep names) d).room ≡ true → d ≡ suc (less_one d)) where
    negative_sound : (ts : List Token) (y : Pair) → negative_at keep ts ≡ Some y → Found Operand d (Dash ∷ ts) y
    negative_sound (Number n ∷ rest) y h =
        let g = guarded (nat_le n (2 ^ 63)) (keep (number (neg_ℤ (pos n))), rest) y h in
        at_rest Operand d (Dash ∷ Number n ∷ rest) rest (number (neg_ℤ (pos n))) y (negative_number (leb-true n (2 ^ 63) g.0)) (keep (number (neg_ℤ (pos n)))) refl g.1
    negative_sound ts y h = absurd (cc)

    words_sound : (o : Option (List ℕ)) (raw : List ℕ) (rest : List Token) (y : Pair) → quoted_meaning raw ≡ o → words_at keep o rest ≡ Some y → Found Operand d (Quoted raw ∷ rest) y
    words_sound (Some text) raw rest y q h = at_rest Operand d (Quoted raw ∷ rest) rest (words text) y (quoted_text (read_is_literal raw text q)) (keep (words text)) refl (some_is (keep (words text), rest) y h)
    words_sound None raw rest y q h = absurd (cc)

    members_sound : (b : Bool) (o : Option Aggregate) (word : Keyword) (ts : List Token) (y : Pair) → (b ≡ true → d ≡ suc (less_one d)) → aggregate_of word ≡ o → aggregate_at keep b o ts ≡ Some y → Found Operand d (Word word ∷ Open ∷ ts) y
    members_sound true (Some a) word (Close ∷ rest) y r q h =
        at_rest Operand d (Word word ∷ Open ∷ Close ∷ rest) rest (aggregated a) y
        (subst (λ (k : ℕ). Spells names Operand k (Word word ∷ Open ∷ Close ∷ rest) (aggregated a) rest) (sym (r refl)) (member_call q)) (keep (aggregated a)) refl (some_is (keep (aggregated a), rest) y h)
    members_sound b o word ts y r q h = absurd (cc)

    called_sound : (o : Option Form) (word : Keyword) (ts : List Token) (y : Pair) → call_of word ≡ o → called_at keep (naming keep names) (inner keep (naming keep names) d) o (aggregate_of word) ts ≡ Some y → Found Operand d (Word word ∷ Open ∷ ts) y
    called_sound (Some f) word ts y q h =
        let b = bind_some ((inner keep (naming keep names) d).enter Whole ts) (λ x. after_close (formed_part keep f x.0) x.1) y h in
        let c = closes (formed_part keep f b.0.0) b.0.1 y b.2 in
        let e = enter Whole ts b.0 b.1 in
        record {
          tree = formed f e.found.tree;
          spelled = subst (λ (k : ℕ). Spells names Operand k (Word word ∷ Open ∷ ts) (formed f e.found.tree) y.1) (sym e.level) (call q (subst (λ (r : List Token). Spells names Whole (less_one d) ts e.found.tree r) c.0 e.found.spelled));
          same = sym c.1 ∙ ap (formed_part keep f) e.found.same ∙ keeps.formed f e.found.tree;
        }
    called_sound None word ts y q h = members_sound (inner keep (naming keep names) d).room (aggregate_of word) word ts y room refl h

    call_sound : (word : Keyword) (ts : List Token) (y : Pair) → call_at keep (naming keep names) (inner keep (naming keep names) d) word ts ≡ Some y → Found Operand d (Word word ∷ ts) y
    call_sound word (Open ∷ ts) y h = called_sound (call_of word) word ts y refl h
    call_sound word ts y h = absurd (cc)

    operand_sound : (ts : List Token) (y : Pair) → operand_at keep (naming keep names) (inner keep (naming keep names) d) ts ≡ Some y → Found Operand d ts y
    unfolding operand_at
    operand_sound (Number n ∷ rest) y h =
        let g = guarded (nat_lt n (2 ^ 63)) (keep (number (pos n)), rest) y h in
        at_rest Operand d (Number n ∷ rest) rest (number (pos n)) y (whole_number (ltb-true n (2 ^ 63) g.0)) (keep (number (pos n))) refl g.1
    operand_sound (Dash ∷ ts) y h = negative_sound ts y h
    operand_sound (Quoted raw ∷ rest) y h = words_sound (quoted_meaning raw) raw rest y refl h
    operand_sound (Name name ∷ rest) y h = at_rest Operand d (Name name ∷ rest) rest (given (name_index names name)) y named (keep (given (name_index names name))) refl (some_is (keep (given (name_index names name)), rest) y h)
    operand_sound (Open ∷ ts) y h =
        let b = bind_some ((inner keep (naming keep names) d).enter Whole ts) (λ x. after_close x.0 x.1) y h in
        let c = closes b.0.0 b.0.1 y b.2 in
        let e = enter Whole ts b.0 b.1 in
        record {
          tree = e.found.tree;
          spelled = subst (λ (k : ℕ). Spells names Operand k (Open ∷ ts) e.found.tree y.1) (sym e.level) (in_brackets (subst (λ (r : List Token). Spells names Whole (less_one d) ts e.found.tree r) c.0 e.found.spelled));
          same = sym c.1 ∙ e.found.same;
        }
    operand_sound (Word word ∷ ts) y h = call_sound word ts y h
    operand_sound ts y h = absurd (cc)

    unary_sound : (ts : List Token) (y : Pair) → unary_at keep (naming keep names) (inner keep (naming keep names) d) ts ≡ Some y → Found Unary d ts y
    unfolding unary_at
    unary_sound (Minus ∷ ts) y h =
        let b = bind_some ((inner keep (naming keep names) d).enter Unary ts) (λ x. Some (formed_part keep form.Neg x.0, x.1)) y h in
        let e = enter Unary ts b.0 b.1 in
        at_rest Unary d (Minus ∷ ts) b.0.1 (negated e.found.tree) y (subst (λ (k : ℕ). Spells names Unary k (Minus ∷ ts) (negated e.found.tree) b.0.1) (sym e.level) (negation e.found.spelled)) (formed_part keep form.Neg b.0.0) (ap (formed_part keep form.Neg) e.found.same ∙ keeps.formed form.Neg e.found.tree) (some_is (formed_part keep form.Neg b.0.0, b.0.1) y b.2)
    unary_sound ts y h = looser Unary d ts y (operand_sound ts y h)

    -- from a front that is read the chain goes on to a longer one
    chain_sound : (L : Level) (next : List Token → Read) → IsLeft L → ((us : List Token) (x : Pair) → next us ≡ Some x → Found (tighter L) d us x)
        → (ts : List Token) (n : ℕ) (x : Part) (us : List Token) (y : Pair) (e : Tree) → x ≡ keep e → Spells names L d ts e us → chain keep (naming keep names) next L n x us ≡ Some y → Found L d ts y
    unfolding chain
    chain_sound L next left sound ts zero x us y e same s h = at_rest L d ts us e y s x same (some_is (x, us) y h)
    chain_sound L next left sound ts (suc n) x [] y e same s h = at_rest L d ts [] e y s x same (some_is (x, []) y h)
    chain_sound L next left sound ts (suc n) x (t ∷ us) y e same s h =
        ⊎_elim
        (λ stop. at_rest L d ts (t ∷ us) e y s x same (some_is (x, t ∷ us) y stop.1))
        (λ more.
        let b = bind_some (next us) (λ z. chain keep (naming keep names) next L n (pair_part keep more.0 x z.0) z.1) y more.2 in
        let f = sound us b.0 b.1 in
        chain_sound L next left sound ts n (pair_part keep more.0 x b.0.0) b.0.1 y (pair more.0 e f.tree) ((λ i. pair_part keep more.0 (same i) (f.same i)) ∙ keeps.pair more.0 e f.tree) (joined left more.1 s f.spelled) b.2)
        (with_op_some (joins L t) (Some (x, t ∷ us)) (λ op. next us >>= λ z. chain keep (naming keep names) next L n (pair_part keep op x z.0) z.1) y h)

    chained_sound : (L : Level) (next : List Token → Read) → IsLeft L → ((us : List Token) (x : Pair) → next us ≡ Some x → Found (tighter L) d us x)
        → (ts : List Token) (y : Pair) → chained keep (naming keep names) next L ts ≡ Some y → Found L d ts y
    chained_sound L next left sound ts y h =
        let b = bind_some (next ts) (λ x. chain keep (naming keep names) next L (length x.1) x.0 x.1) y h in
        let f = sound ts b.0 b.1 in
        chain_sound L next left sound ts (length b.0.1) b.0.0 b.0.1 y f.tree f.same (as_tighter f.spelled) b.2

    product_sound : (ts : List Token) (y : Pair) → product_at keep (naming keep names) (inner keep (naming keep names) d) ts ≡ Some y → Found Product d ts y
    product_sound = chained_sound Product (unary_at keep (naming keep names) (inner keep (naming keep names) d)) tt unary_sound

    sum_sound : (ts : List Token) (y : Pair) → sum_at keep (naming keep names) (inner keep (naming keep names) d) ts ≡ Some y → Found Sum d ts y
    sum_sound = chained_sound Sum (product_at keep (naming keep names) (inner keep (naming keep names) d)) tt product_sound

    compared_sound : (ts us : List Token) (x : Part) (y : Pair) (e : Tree) → x ≡ keep e → Spells names Sum d ts e us → compared_at keep (naming keep names) (inner keep (naming keep names) d) x us ≡ Some y → Found Comparison d ts y
    unfolding compared_at
    compared_sound ts [] x y e same s h = at_rest Comparison d ts [] e y (as_tighter s) x same (some_is (x, []) y h)
    compared_sound ts (t ∷ us) x y e same s h =
        ⊎_elim
        (λ stop. at_rest Comparison d ts (t ∷ us) e y (as_tighter s) x same (some_is (x, t ∷ us) y stop.1))
        (λ more.
        let b = bind_some (sum_at keep (naming keep names) (inner keep (naming keep names) d) us) (λ z. Some (pair_part keep more.0 x z.0, z.1)) y more.2 in
        let f = sum_sound us b.0 b.1 in
        at_rest Comparison d ts b.0.1 (pair more.0 e f.tree) y (comparison more.1 s f.spelled) (pair_part keep more.0 x b.0.0) ((λ i. pair_part keep more.0 (same i) (f.same i)) ∙ keeps.pair more.0 e f.tree) (some_is (pair_part keep more.0 x b.0.0, b.0.1) y b.2))
        (with_op_some (joins Comparison t) (Some (x, t ∷ us)) (λ op. sum_at keep (naming keep names) (inner keep (naming keep names) d) us >>= λ z. Some (pair_part keep op x z.0, z.1)) y h)

    comparison_sound : (ts : List Token) (y : Pair) → comparison_at keep (naming keep names) (inner keep (naming keep names) d) ts ≡ Some y → Found Comparison d ts y
    comparison_sound ts y h =
        let b = bind_some (sum_at keep (naming keep names) (inner keep (naming keep names) d) ts) (λ x. compared_at keep (naming keep names) (inner keep (naming keep names) d) x.0 x.1) y h in
        let f = sum_sound ts b.0 b.1 in
        compared_sound ts b.0.1 b.0.0 y f.tree f.same f.spelled b.2

    denial_sound : (ts : List Token) (y : Pair) → denial_at keep (naming keep names) (inner keep (naming keep names) d) ts ≡ Some y → Found Denial d ts y
    unfolding denial_at
    denial_sound (Word keyword.Not ∷ ts) y h =
        let b = bind_some ((inner keep (naming keep names) d).enter Denial ts) (λ x. Some (formed_part keep form.Not x.0, x.1)) y h in
        let e = enter Denial ts b.0 b.1 in
        at_rest Denial d (Word keyword.Not ∷ ts) b.0.1 (denied e.found.tree) y (subst (λ (k : ℕ). Spells names Denial k (Word keyword.Not ∷ ts) (denied e.found.tree) b.0.1) (sym e.level) (denial e.found.spelled)) (formed_part keep form.Not b.0.0) (ap (formed_part keep form.Not) e.found.same ∙ keeps.formed form.Not e.found.tree) (some_is (formed_part keep form.Not b.0.0, b.0.1) y b.2)
    denial_sound ts y h = looser Denial d ts y (comparison_sound ts y h)

    conjunction_sound : (ts : List Token) (y : Pair) → conjunction_at keep (naming keep names) (inner keep (naming keep names) d) ts ≡ Some y → Found Conjunction d ts y
    conjunction_sound = chained_sound Conjunction (denial_at keep (naming keep names) (inner keep (naming keep names) d)) tt denial_sound

    disjunction_sound : (ts : List Token) (y : Pair) → disjunction_at keep (naming keep names) (inner keep (naming keep names) d) ts ≡ Some y → Found Disjunction d ts y
    disjunction_sound = chained_sound Disjunction (conjunction_at keep (naming keep names) (inner keep (naming keep names) d)) tt conjunction_sound

    else_sound : (c a : Part) (r : List Token) (y : Pair) → else_at keep (naming keep names) (inner keep (naming keep names) d) c a r ≡ Some y → (vs : List Token) × (x : Pair) × (r ≡ Word keyword.Else ∷ vs) × ((inner keep (naming keep names) d).enter Whole vs ≡ Some x) × ((choice_part keep c a x.0, x.1) ≡ y)
    else_sound c a (Word keyword.Else ∷ vs) y h =
        let b = bind_some ((inner keep (naming keep names) d).enter Whole vs) (λ x. Some (choice_part keep c a x.0, x.1)) y h in
        (vs, b.0, refl, b.1, some_is (choice_part keep c a b.0.0, b.0.1) y b.2)
    else_sound c a r y h = absurd (cc)

    then_sound : (c : Part) (r : List Token) (y : Pair) → then_at keep (naming keep names) (inner keep (naming keep names) d) c r ≡ Some y → (us : List Token) × (x : Pair) × (r ≡ Word keyword.Then ∷ us) × ((inner keep (naming keep names) d).enter Whole us ≡ Some x) × (else_at keep (naming keep names) (inner keep (naming keep names) d) c x.0 x.1 ≡ Some y)
    then_sound c (Word keyword.Then ∷ us) y h =
        let b = bind_some ((inner keep (naming keep names) d).enter Whole us) (λ a. else_at keep (naming keep names) (inner keep (naming keep names) d) c a.0 a.1) y h in
        (us, b.0, refl, b.1, b.2)
    then_sound c r y h = absurd (cc)

    whole_sound : (ts : List Token) (y : Pair) → whole_at keep (naming keep names) (inner keep (naming keep names) d) ts ≡ Some y → Found Whole d ts y
    unfolding whole_at
    whole_sound (Word keyword.If ∷ ts) y h =
        let r = bind_some ((inner keep (naming keep names) d).enter Whole ts) (λ c. then_at keep (naming keep names) (inner keep (naming keep names) d) c.0 c.1) y h in
        let t = then_sound r.0.0 r.0.1 y r.2 in
        let v = else_sound r.0.0 t.1.0 t.1.1 y t.4 in
        let c = enter Whole ts r.0 r.1 in
        let a = enter Whole t.0 t.1 t.3 in
        let b = enter Whole v.0 v.1 v.3 in
        let e = choice c.found.tree a.found.tree b.found.tree in
        let cs = subst (λ (r : List Token). Spells names Whole (less_one d) ts c.found.tree r) t.2 c.found.spelled in
        let as_ = subst (λ (r : List Token). Spells names Whole (less_one d) t.0 a.found.tree r) v.2 a.found.spelled in
        at_rest Whole d (Word keyword.If ∷ ts) v.1.1 e y (subst (λ (k : ℕ). Spells names Whole k (Word keyword.If ∷ ts) e v.1.1) (sym c.level) (if_then_else cs as_ b.found.spelled)) (choice_part keep r.0.0 t.1.0 v.1.0) ((λ i. choice_part keep (c.found.same i) (a.found.same i) (b.found.same i)) ∙ keeps.choice c.found.tree a.found.tree b.found.tree) v.4
    whole_sound ts y h = looser Whole d ts y (disjunction_sound ts y h)

    level_sound : (L : Level) (ts : List Token) (y : Pair) → level_at keep (naming keep names) (inner keep (naming keep names) d) L ts ≡ Some y → Found L d ts y
    level_sound Whole = whole_sound
    level_sound Disjunction = disjunction_sound
    level_sound Conjunction = conjunction_sound
    level_sound Denial = denial_sound
    level_sound Comparison = comparison_sound
    level_sound Sum = sum_sound
    level_sound Product = product_sound
    level_sound Unary = unary_sound
    level_sound Operand = operand_sound

  rooms : (d : ℕ) → (inner keep (naming keep names) d).room ≡ true → d ≡ suc (less_one d)
  unfolding inner
  rooms zero h = absurd (cc)
  rooms (suc d) h = refl

  enters : (d : ℕ) (L : Level) (ts : List Token) (x : Pair) → (inner keep (naming keep names) d).enter L ts ≡ Some x → Entered L d ts x
  unfolding inner
  enters zero L ts x h = absurd (cc)
  enters (suc d) L ts x h = record { level = refl; found = level_sound d (enters d) (rooms d) L ts x h }

  -- what is read is in the grammar
  pub is_sound : (d : ℕ) (L : Level) (ts : List Token) (x : Pair) → level_at keep (naming keep names) (inner keep (naming keep names) d) L ts ≡ Some x → Found L d ts x
  is_sound d = level_sound d (enters d) (rooms d)
