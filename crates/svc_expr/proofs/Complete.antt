-- What is in the grammar is read.
use Rattle.std.proofs.Common.{◌≡◌, ℕ, zero, suc, ◌+◌, ◌^◌, ◌<◌, ◌≤◌, Bool, true, false, cond, List, [], ◌∷◌, length, Option, Some, None, refl, ap, ◌∙◌, arith}
use Rattle.std.specs.Prelude.{pos, neg_ℤ, nat_lt, nat_le, ◌==◌}
use Rattle.std.proofs.lemmas.Bool.{lt-ltb, ltb-true, le-leb, leb-true, eqb-true, ne_eqb}
use Rattle.svc_token.specs.declared.keyword.Keyword.{Keyword}
use Rattle.svc_token.specs.declared.keyword.Keyword.TheVariants as keyword
use Rattle.svc_token.specs.declared.token.Token.{Token}
use Rattle.svc_token.specs.declared.token.Token.TheVariants.{Keyword as Word, Close, Minus}
use Rattle.svc_expr.specs.declared.expr.Op.{Op}
use Rattle.svc_expr.specs.declared.level.Level.{Level}
use Rattle.svc_expr.specs.declared.level.Level.TheVariants.{Whole, Disjunction, Conjunction, Denial, Comparison, Sum, Product, Unary, Operand}
use Rattle.svc_expr.specs.declared.level.Form.{Form}
use Rattle.svc_expr.specs.declared.level.Form.TheVariants as form
use Rattle.svc_expr.specs.declared.level.Aggregate.{Aggregate}
use Rattle.svc_expr.specs.Tree.{Tree, number, pair}
use Rattle.svc_expr.specs.Grammar.{level_number, tighter, operator, level_of, at_level, joins, IsLeft, call_of, aggregate_of, Spells, whole_number, negative_number, quoted_text, named, in_brackets, call, member_call, negation, joined, comparison, denial, if_then_else, as_tighter}
use Rattle.svc_expr.specs.Reading.{naming, Part, Read, ◌>>=◌, formed_part, pair_part, choice_part, after_close, words_at, aggregate_at, called_at, operand_at, unary_at, with_op, chain, product_at, sum_at, compared_at, comparison_at, denial_at, conjunction_at, disjunction_at, else_at, then_at, whole_at, level_at, inner}
use Rattle.svc_expr.proofs.Sizes.{Keeps}
use Rattle.svc_expr.proofs.Unquoted.{literal_is_read}
use Rattle.svc_expr.proofs.Sound.{Pair, is_sound}

-- what is spelled has at least one token
pub shorter : {names : List (List ℕ)} {L : Level} {d : ℕ} {ts : List Token} {e : Tree} {rest : List Token} → Spells names L d ts e rest → length rest < length ts
shorter (whole_number h) = omega arith
shorter (negative_number h) = omega arith
shorter (quoted_text h) = omega arith
shorter named = omega arith
shorter (in_brackets s) = omega (arith, shorter s)
shorter (call h s) = omega (arith, shorter s)
shorter (member_call h) = omega arith
shorter (negation s) = omega (arith, shorter s)
shorter (joined l h s t) = omega (arith, shorter s, shorter t)
shorter (comparison h s t) = omega (arith, shorter s, shorter t)
shorter (denial s) = omega (arith, shorter s)
shorter (if_then_else s t u) = omega (arith, shorter s, shorter t, shorter u)
shorter (as_tighter s) = shorter s

looser_number : (L : Level) → level_number L ≤ level_number (tighter L)
looser_number Whole = omega arith
looser_number Disjunction = omega arith
looser_number Conjunction = omega arith
looser_number Denial = omega arith
looser_number Comparison = omega arith
looser_number Sum = omega arith
looser_number Product = omega arith
looser_number Unary = omega arith
looser_number Operand = omega arith

-- the tightest level that may begin with a token
abbrev first_level : Token → ℕ
first_level (Word keyword.If) = 1
first_level (Word keyword.Not) = 4
first_level Minus = 8
first_level t = 9

-- whether a level may begin with these tokens
abbrev opens : Level → List Token → Bool
opens L [] = false
opens L (t ∷ ts) = nat_le (level_number L) (first_level t)

opens_looser : (L : Level) (ts : List Token) → opens (tighter L) ts ≡ true → opens L ts ≡ true
opens_looser L [] h = h
opens_looser L (t ∷ ts) h =
    let k = leb-true (level_number (tighter L)) (first_level t) h in
    let l = looser_number L in
    le-leb (level_number L) (first_level t) (omega arith)

call_first : (word : Keyword) (f : Form) → call_of word ≡ Some f → first_level (Word word) ≡ 9
call_first keyword.If f h = absurd (cc)
call_first keyword.Not f h = absurd (cc)
call_first word f h = refl

member_first : (word : Keyword) (a : Aggregate) → aggregate_of word ≡ Some a → first_level (Word word) ≡ 9
member_first keyword.If a h = absurd (cc)
member_first keyword.Not a h = absurd (cc)
member_first word a h = refl

member_no_call : (word : Keyword) (a : Aggregate) → aggregate_of word ≡ Some a → call_of word ≡ None
member_no_call keyword.Len a h = absurd (cc)
member_no_call keyword.Number a h = absurd (cc)
member_no_call keyword.Text a h = absurd (cc)
member_no_call word a h = refl

begins : {names : List (List ℕ)} {L : Level} {d : ℕ} {ts : List Token} {e : Tree} {rest : List Token} → Spells names L d ts e rest → opens L ts ≡ true
begins (whole_number h) = refl
begins (negative_number h) = refl
begins (quoted_text h) = refl
begins named = refl
begins (in_brackets s) = refl
begins (call {word = word} {form = f} h s) = ap (λ (n : ℕ). nat_le 9 n) (call_first word f h)
begins (member_call {word = word} {a = a} h) = ap (λ (n : ℕ). nat_le 9 n) (member_first word a h)
begins (negation s) = refl
begins (joined l h s t) = begins s
begins (comparison {ts = ts} h s t) = opens_looser Comparison ts (begins s)
begins (denial s) = refl
begins (if_then_else s t u) = refl
begins (as_tighter {L = L} {ts = ts} s) = opens_looser L ts (begins s)

-- whether a level, or a tighter one, can't go on with an operator
abbrev stops : Level → Option Op → Bool
stops L None = true
stops L (Some op) = nat_lt (level_number (level_of op)) (level_number L)

-- whether it can't go on with these tokens
abbrev pub stopped : Level → List Token → Bool
stopped L [] = true
stopped L (t ∷ ts) = stops L (operator t)

stops_tighter : (L : Level) (o : Option Op) → stops L o ≡ true → stops (tighter L) o ≡ true
stops_tighter L None h = refl
stops_tighter L (Some op) h =
    let k = ltb-true (level_number (level_of op)) (level_number L) h in
    let l = looser_number L in
    lt-ltb (level_number (level_of op)) (level_number (tighter L)) (omega arith)

stopped_tighter : (L : Level) (ts : List Token) → stopped L ts ≡ true → stopped (tighter L) ts ≡ true
stopped_tighter L [] h = refl
stopped_tighter L (t ∷ ts) h = stops_tighter L (operator t) h

stops_join : (L : Level) (o : Option Op) → stops L o ≡ true → at_level L o ≡ None
stops_join L None h = refl
stops_join L (Some op) h =
    let k = ltb-true (level_number (level_of op)) (level_number L) h in
    ap (λ (b : Bool). cond b (Some op) None) (ne_eqb (level_number (level_of op)) (level_number L) (λ e. absurd (omega arith)))

-- a level that stops joins nothing
no_join : (L : Level) (t : Token) (ts : List Token) → stopped L (t ∷ ts) ≡ true → joins L t ≡ None
no_join L t ts h = stops_join L (operator t) h

taken : (b : Bool) (op op' : Op) → cond b (Some op) None ≡ Some op' → b ≡ true
taken true op op' h = refl
taken false op op' h = absurd (cc)

join_stops_at : (L : Level) (o : Option Op) (op : Op) → level_number (tighter L) ≡ level_number L + 1 → at_level L o ≡ Some op → stops (tighter L) o ≡ true
join_stops_at L None op n h = absurd (cc)
join_stops_at L (Some op') op n h =
    let e = eqb-true (level_number (level_of op')) (level_number L) (taken (level_number (level_of op') == level_number L) op' op h) in
    lt-ltb (level_number (level_of op')) (level_number (tighter L)) (omega arith)

-- the operators of a level stop the tighter one
join_stops : (L : Level) (t : Token) (ts : List Token) (op : Op) → level_number (tighter L) ≡ level_number L + 1 → joins L t ≡ Some op → stopped (tighter L) (t ∷ ts) ≡ true
join_stops L t ts op n h = join_stops_at L (operator t) op n h

with_op_same : (o : Option Op) (r : Read) (f g : Op → Read) → ((op : Op) → f op ≡ g op) → with_op o r f ≡ with_op o r g
with_op_same None r f g h = refl
with_op_same (Some op) r f g h = h op

bind_same : (r : Read) (f g : Pair → Read) → ((x : Pair) → r ≡ Some x → f x ≡ g x) → (r >>= f) ≡ (r >>= g)
bind_same None f g h = refl
bind_same (Some x) f g h = h x refl

-- what has to hold of the rest
abbrev need : Level → List Token → Bool
need Disjunction rest = stopped Conjunction rest
need Conjunction rest = stopped Denial rest
need Sum rest = stopped Product rest
need Product rest = stopped Unary rest
need L rest = stopped L rest

module _ (keep : Tree → Part) (keeps : Keeps keep) (names : List (List ℕ)) where
  -- the chain is the same for each bound that is enough
  enough : (next : List Token → Read) (L : Level) → ((us : List Token) (x : Pair) → next us ≡ Some x → length x.1 < length us)
      → (n m : ℕ) (x : Part) (ts : List Token) → length ts ≤ n → length ts ≤ m → chain keep (naming keep names) next L n x ts ≡ chain keep (naming keep names) next L m x ts
  unfolding chain
  enough next L short zero zero x ts h g = refl
  enough next L short zero (suc m) x [] h g = refl
  enough next L short zero (suc m) x (t ∷ ts) h g = absurd (omega arith)
  enough next L short (suc n) zero x [] h g = refl
  enough next L short (suc n) zero x (t ∷ ts) h g = absurd (omega arith)
  enough next L short (suc n) (suc m) x [] h g = refl
  enough next L short (suc n) (suc m) x (t ∷ ts) h g =
      with_op_same (joins L t) (Some (x, t ∷ ts)) (λ op. next ts >>= λ y. chain keep (naming keep names) next L n (pair_part keep op x y.0) y.1) (λ op. next ts >>= λ y. chain keep (naming keep names) next L m (pair_part keep op x y.0) y.1)
      (λ op. bind_same (next ts) (λ y. chain keep (naming keep names) next L n (pair_part keep op x y.0) y.1) (λ y. chain keep (naming keep names) next L m (pair_part keep op x y.0) y.1)
      (λ y e. let k = short ts y e in enough next L short n m (pair_part keep op x y.0) y.1 (omega arith) (omega arith)))

  chain_stops : (next : List Token → Read) (L : Level) (n : ℕ) (x : Part) (ts : List Token) → stopped L ts ≡ true → chain keep (naming keep names) next L n x ts ≡ Some (x, ts)
  unfolding chain
  chain_stops next L zero x ts h = refl
  chain_stops next L (suc n) x [] h = refl
  chain_stops next L (suc n) x (t ∷ ts) h = ap (λ (o : Option Op). with_op o (Some (x, t ∷ ts)) (λ op. next ts >>= λ y. chain keep (naming keep names) next L n (pair_part keep op x y.0) y.1)) (no_join L t ts h)

  chain_step : (next : List Token → Read) (L : Level) (x y : Part) (t : Token) (us rest : List Token) (op : Op) → joins L t ≡ Some op → next us ≡ Some (y, rest)
      → chain keep (naming keep names) next L (length (t ∷ us)) x (t ∷ us) ≡ chain keep (naming keep names) next L (length us) (pair_part keep op x y) rest
  unfolding chain
  chain_step next L x y t us rest op h g = λ i. with_op (h i) (Some (x, t ∷ us)) (λ o. g i >>= λ z. chain keep (naming keep names) next L (length us) (pair_part keep o x z.0) z.1)

  -- how reading goes on behind a front that is spelled
  abbrev onward : ℕ → Level → Part → List Token → Read
  onward d Disjunction x rest = chain keep (naming keep names) (conjunction_at keep (naming keep names) (inner keep (naming keep names) d)) Disjunction (length rest) x rest
  onward d Conjunction x rest = chain keep (naming keep names) (denial_at keep (naming keep names) (inner keep (naming keep names) d)) Conjunction (length rest) x rest
  onward d Sum x rest = chain keep (naming keep names) (product_at keep (naming keep names) (inner keep (naming keep names) d)) Sum (length rest) x rest
  onward d Product x rest = chain keep (naming keep names) (unary_at keep (naming keep names) (inner keep (naming keep names) d)) Product (length rest) x rest
  onward d L x rest = Some (x, rest)

  -- reading goes through this front
  abbrev Goes : Level → ℕ → List Token → Tree → List Token → Type 0
  Goes L d ts e rest = need L rest ≡ true → level_at keep (naming keep names) (inner keep (naming keep names) d) L ts ≡ onward d L (keep e) rest

  stops_there : (L : Level) (d : ℕ) (ts : List Token) (e : Tree) (rest : List Token) → Goes L d ts e rest → stopped L rest ≡ true → level_at keep (naming keep names) (inner keep (naming keep names) d) L ts ≡ Some (keep e, rest)
  stops_there Disjunction d ts e rest g h = g (stopped_tighter Disjunction rest h) ∙ chain_stops (conjunction_at keep (naming keep names) (inner keep (naming keep names) d)) Disjunction (length rest) (keep e) rest h
  stops_there Conjunction d ts e rest g h = g (stopped_tighter Conjunction rest h) ∙ chain_stops (denial_at keep (naming keep names) (inner keep (naming keep names) d)) Conjunction (length rest) (keep e) rest h
  stops_there Sum d ts e rest g h = g (stopped_tighter Sum rest h) ∙ chain_stops (product_at keep (naming keep names) (inner keep (naming keep names) d)) Sum (length rest) (keep e) rest h
  stops_there Product d ts e rest g h = g (stopped_tighter Product rest h) ∙ chain_stops (unary_at keep (naming keep names) (inner keep (naming keep names) d)) Product (length rest) (keep e) rest h
  stops_there L d ts e rest g h = g h

  short_at : (L : Level) (d : ℕ) (us : List Token) (x : Pair) → level_at keep (naming keep names) (inner keep (naming keep names) d) L us ≡ Some x → length x.1 < length us
  short_at L d us x h = shorter (is_sound keep keeps names d L us x h).spelled

  next_join : (L : Level) (d : ℕ) (us rest : List Token) (t : Token) (op : Op) (a b : Tree) → joins L t ≡ Some op → level_at keep (naming keep names) (inner keep (naming keep names) d) (tighter L) us ≡ Some (keep b, rest)
      → chain keep (naming keep names) (level_at keep (naming keep names) (inner keep (naming keep names) d) (tighter L)) L (length (t ∷ us)) (keep a) (t ∷ us) ≡ chain keep (naming keep names) (level_at keep (naming keep names) (inner keep (naming keep names) d) (tighter L)) L (length rest) (keep (pair op a b)) rest
  next_join L d us rest t op a b h g =
      let next = level_at keep (naming keep names) (inner keep (naming keep names) d) (tighter L) in
      let k = short_at (tighter L) d us (keep b, rest) g in
      chain_step next L (keep a) (keep b) t us rest op h g ∙ enough next L (short_at (tighter L) d) (length us) (length rest) (pair_part keep op (keep a) (keep b)) rest (omega arith) (omega arith) ∙ ap (λ x. chain keep (naming keep names) next L (length rest) x rest) (keeps.pair op a b)

  goes_joined : (L : Level) (d : ℕ) (ts us rest : List Token) (t : Token) (op : Op) (a b : Tree) → IsLeft L → joins L t ≡ Some op → Goes L d ts a (t ∷ us) → Goes (tighter L) d us b rest → Goes L d ts (pair op a b) rest
  goes_joined Disjunction d ts us rest t op a b l h g k n = g (join_stops Disjunction t us op refl h) ∙ next_join Disjunction d us rest t op a b h (stops_there Conjunction d us b rest k n)
  goes_joined Conjunction d ts us rest t op a b l h g k n = g (join_stops Conjunction t us op refl h) ∙ next_join Conjunction d us rest t op a b h (stops_there Denial d us b rest k n)
  goes_joined Sum d ts us rest t op a b l h g k n = g (join_stops Sum t us op refl h) ∙ next_join Sum d us rest t op a b h (stops_there Product d us b rest k n)
  goes_joined Product d ts us rest t op a b l h g k n = g (join_stops Product t us op refl h) ∙ next_join Product d us rest t op a b h (stops_there Unary d us b rest k n)
  goes_joined L d ts us rest t op a b l h g k n = absurd l

  compared_stops : (d : ℕ) (x : Part) (ts : List Token) → stopped Comparison ts ≡ true → compared_at keep (naming keep names) (inner keep (naming keep names) d) x ts ≡ Some (x, ts)
  unfolding compared_at
  compared_stops d x [] h = refl
  compared_stops d x (t ∷ ts) h = ap (λ (o : Option Op). with_op o (Some (x, t ∷ ts)) (λ op. sum_at keep (naming keep names) (inner keep (naming keep names) d) ts >>= λ y. Some (pair_part keep op x y.0, y.1))) (no_join Comparison t ts h)

  denial_passes : (d : ℕ) (ts : List Token) → opens Comparison ts ≡ true → denial_at keep (naming keep names) (inner keep (naming keep names) d) ts ≡ comparison_at keep (naming keep names) (inner keep (naming keep names) d) ts
  unfolding denial_at
  denial_passes d (Word keyword.Not ∷ ts) h = absurd (cc)
  denial_passes d ts h = refl

  whole_passes : (d : ℕ) (ts : List Token) → opens Disjunction ts ≡ true → whole_at keep (naming keep names) (inner keep (naming keep names) d) ts ≡ disjunction_at keep (naming keep names) (inner keep (naming keep names) d) ts
  unfolding whole_at
  whole_passes d (Word keyword.If ∷ ts) h = absurd (cc)
  whole_passes d ts h = refl

  unary_passes : (d : ℕ) (ts : List Token) → opens Operand ts ≡ true → unary_at keep (naming keep names) (inner keep (naming keep names) d) ts ≡ operand_at keep (naming keep names) (inner keep (naming keep names) d) ts
  unfolding unary_at
  unary_passes d (Minus ∷ ts) h = absurd (cc)
  unary_passes d ts h = refl

  goes_tighter : (L : Level) (d : ℕ) (ts : List Token) (e : Tree) (rest : List Token) → opens (tighter L) ts ≡ true → Goes (tighter L) d ts e rest → Goes L d ts e rest
  goes_tighter Whole d ts e rest o g n = whole_passes d ts o ∙ stops_there Disjunction d ts e rest g (stopped_tighter Whole rest n)
  goes_tighter Disjunction d ts e rest o g n = ap (λ (r : Read). r >>= λ x. chain keep (naming keep names) (conjunction_at keep (naming keep names) (inner keep (naming keep names) d)) Disjunction (length x.1) x.0 x.1) (stops_there Conjunction d ts e rest g n)
  goes_tighter Conjunction d ts e rest o g n = ap (λ (r : Read). r >>= λ x. chain keep (naming keep names) (denial_at keep (naming keep names) (inner keep (naming keep names) d)) Conjunction (length x.1) x.0 x.1) (stops_there Denial d ts e rest g n)
  goes_tighter Denial d ts e rest o g n = denial_passes d ts o ∙ g (stopped_tighter Denial rest n)
  goes_tighter Comparison d ts e rest o g n = ap (λ (r : Read). r >>= λ x. compared_at keep (naming keep names) (inner keep (naming keep names) d) x.0 x.1) (stops_there Sum d ts e rest g (stopped_tighter Comparison rest n)) ∙ compared_stops d (keep e) rest n
  goes_tighter Sum d ts e rest o g n = ap (λ (r : Read). r >>= λ x. chain keep (naming keep names) (product_at keep (naming keep names) (inner keep (naming keep names) d)) Sum (length x.1) x.0 x.1) (stops_there Product d ts e rest g n)
  goes_tighter Product d ts e rest o g n = ap (λ (r : Read). r >>= λ x. chain keep (naming keep names) (unary_at keep (naming keep names) (inner keep (naming keep names) d)) Product (length x.1) x.0 x.1) (stops_there Unary d ts e rest g n)
  goes_tighter Unary d ts e rest o g n = unary_passes d ts o ∙ g (stopped_tighter Unary rest n)
  goes_tighter Operand d ts e rest o g n = g n

  goes : {L : Level} {d : ℕ} {ts : List Token} {e : Tree} {rest : List Token} → Spells names L d ts e rest → Goes L d ts e rest
  unfolding operand_at unary_at compared_at denial_at whole_at inner
  goes (whole_number {n = n} {rest = rest} h) k = ap (λ (b : Bool). cond b (Some (keep (number (pos n)), rest)) None) (lt-ltb n (2 ^ 63) h)
  goes (negative_number {n = n} {rest = rest} h) k = ap (λ (b : Bool). cond b (Some (keep (number (neg_ℤ (pos n))), rest)) None) (le-leb n (2 ^ 63) h)
  goes (quoted_text {raw = raw} {text = text} {rest = rest} h) k = ap (λ (o : Option (List ℕ)). words_at keep o rest) (literal_is_read raw text h)
  goes named k = refl
  goes (in_brackets s) k = ap (λ (r : Read). r >>= λ x. after_close x.0 x.1) (goes s refl)
  goes (call {d = d} {ts = ts} {rest = rest} {e = e} {word = word} {form = f} h s) k =
      ap (λ (o : Option Form). called_at keep (naming keep names) (inner keep (naming keep names) (suc d)) o (aggregate_of word) ts) h
      ∙ ap (λ (r : Read). r >>= λ x. after_close (formed_part keep f x.0) x.1) (goes s refl)
      ∙ ap (λ (p : Part). Some (p, rest)) (keeps.formed f e)
  goes (member_call {d = d} {rest = rest} {word = word} {a = a} h) k =
      ap (λ (o : Option Form). called_at keep (naming keep names) (inner keep (naming keep names) (suc d)) o (aggregate_of word) (Close ∷ rest)) (member_no_call word a h)
      ∙ ap (λ (o : Option Aggregate). aggregate_at keep true o (Close ∷ rest)) h
  goes (negation {rest = rest} {e = e} s) k = ap (λ (r : Read). r >>= λ x. Some (formed_part keep form.Neg x.0, x.1)) (goes s k) ∙ ap (λ (p : Part). Some (p, rest)) (keeps.formed form.Neg e)
  goes (joined {L = L} {d = d} {ts = ts} {us = us} {rest = rest} {t = t} {op = op} {a = a} {b = b} l h s u) k = goes_joined L d ts us rest t op a b l h (goes s) (goes u) k
  goes (comparison {d = d} {ts = ts} {us = us} {rest = rest} {t = t} {op = op} {a = a} {b = b} h s u) k =
      ap (λ (r : Read). r >>= λ x. compared_at keep (naming keep names) (inner keep (naming keep names) d) x.0 x.1) (stops_there Sum d ts a (t ∷ us) (goes s) (join_stops Comparison t us op refl h))
      ∙ ap (λ (o : Option Op). with_op o (Some (keep a, t ∷ us)) (λ op. sum_at keep (naming keep names) (inner keep (naming keep names) d) us >>= λ y. Some (pair_part keep op (keep a) y.0, y.1))) h
      ∙ ap (λ (r : Read). r >>= λ y. Some (pair_part keep op (keep a) y.0, y.1)) (stops_there Sum d us b rest (goes u) (stopped_tighter Comparison rest k))
      ∙ ap (λ (p : Part). Some (p, rest)) (keeps.pair op a b)
  goes (denial {rest = rest} {e = e} s) k = ap (λ (r : Read). r >>= λ x. Some (formed_part keep form.Not x.0, x.1)) (goes s k) ∙ ap (λ (p : Part). Some (p, rest)) (keeps.formed form.Not e)
  goes (if_then_else {d = d} {rest = rest} {c = c} {a = a} {b = b} s u v) k =
      ap (λ (r : Read). r >>= λ x. then_at keep (naming keep names) (inner keep (naming keep names) (suc d)) x.0 x.1) (goes s refl)
      ∙ ap (λ (r : Read). r >>= λ x. else_at keep (naming keep names) (inner keep (naming keep names) (suc d)) (keep c) x.0 x.1) (goes u refl)
      ∙ ap (λ (r : Read). r >>= λ x. Some (choice_part keep (keep c) (keep a) x.0, x.1)) (goes v k)
      ∙ ap (λ (p : Part). Some (p, rest)) (keeps.choice c a b)
  goes (as_tighter {L = L} {d = d} {ts = ts} {rest = rest} {e = e} s) k = goes_tighter L d ts e rest (begins s) (goes s) k

  -- what is in the grammar is read
  pub is_complete : {L : Level} {d : ℕ} {ts : List Token} {e : Tree} {rest : List Token} → Spells names L d ts e rest → stopped L rest ≡ true → level_at keep (naming keep names) (inner keep (naming keep names) d) L ts ≡ Some (keep e, rest)
  is_complete {L} {d} {ts} {e} {rest} s h = stops_there L d ts e rest (goes s) h
