-- The canonical tokens spell their tree.
use Rattle.std.proofs.Common.{◌≡◌, ℕ, zero, suc, ◌*◌, ◌<◌, ◌≤◌, Bool, true, false, List, ◌∷◌, length, refl, subst, arith}
use Rattle.std.specs.Prelude.{pos, negsuc}
use Rattle.svc_token.specs.declared.keyword.Keyword.TheVariants as keyword
use Rattle.svc_token.specs.declared.token.Token.{Token}
use Rattle.svc_token.specs.declared.token.Token.TheVariants.{Keyword as Word, Name, Number, Quoted, Equals, Open, Close, Plus, Join, Minus, Dash, Star, Slash, Percent, Less, LessOrEqual, NotEqual, Greater, GreaterOrEqual}
use Rattle.svc_value.specs.Printed.{between_quotes}
use Rattle.svc_expr.specs.declared.expr.Op.{Op}
use Rattle.svc_expr.specs.declared.expr.Op.TheVariants as op
use Rattle.svc_expr.specs.declared.level.Level.TheVariants.{Whole, Disjunction, Conjunction, Denial, Comparison, Sum, Product, Unary, Operand}
use Rattle.svc_expr.specs.declared.level.Form.TheVariants as form
use Rattle.svc_expr.specs.declared.level.Aggregate.TheVariants as aggregate
use Rattle.svc_expr.specs.Tree.{Tree, number, words, given, negated, denied, pair, choice, len_of, number_of, text_of, sum_of_members, count_of_members, least_member, greatest_member, depth}
use Rattle.svc_expr.specs.Canonical.{has_bracket, name_at, IsWritable}
use Rattle.svc_expr.specs.Grammar.{name_index, Spells, whole_number, negative_number, quoted_text, named, in_brackets, call, member_call, negation, joined, comparison, denial, if_then_else, as_tighter}
use Rattle.svc_expr.proofs.NameLemmas.{Names}
use Rattle.svc_expr.proofs.Unquoted.{quoted_is_literal}

-- the token of an operator
abbrev pub sign_of : Op → Token
sign_of op.Add = Plus
sign_of op.Sub = Minus
sign_of op.Mul = Star
sign_of op.Div = Slash
sign_of op.Rem = Percent
sign_of op.Join = Join
sign_of op.Eq = Equals
sign_of op.Ne = NotEqual
sign_of op.Lt = Less
sign_of op.Le = LessOrEqual
sign_of op.Gt = Greater
sign_of op.Ge = GreaterOrEqual
sign_of op.And = Word keyword.And
sign_of op.Or = Word keyword.Or

-- tokens in brackets, where the text does not begin with one, and behind them the rest
abbrev pub in_brackets_if : Bool → (List Token → List Token) → List Token → List Token
in_brackets_if true ts rest = ts rest
in_brackets_if false ts rest = Open ∷ ts (Close ∷ rest)

-- the canonical tokens of a tree, and behind them the rest
unfoldable pub canon : Names → Tree → List Token → List Token
canon names (number (pos n)) rest = Number n ∷ rest
canon names (number (negsuc n)) rest = Dash ∷ Number (suc n) ∷ rest
canon names (words text) rest = Quoted (between_quotes text) ∷ rest
canon names (given k) rest = Name (name_at names k) ∷ rest
canon names (negated a) rest = Minus ∷ in_brackets_if (has_bracket a) (canon names a) rest
canon names (denied a) rest = Open ∷ Word keyword.Not ∷ in_brackets_if (has_bracket a) (canon names a) (Close ∷ rest)
canon names (pair op a b) rest = Open ∷ canon names a (sign_of op ∷ canon names b (Close ∷ rest))
canon names (choice c a b) rest = Open ∷ Word keyword.If ∷ canon names c (Word keyword.Then ∷ canon names a (Word keyword.Else ∷ canon names b (Close ∷ rest)))
canon names (len_of a) rest = Word keyword.Len ∷ Open ∷ canon names a (Close ∷ rest)
canon names (number_of a) rest = Word keyword.Number ∷ Open ∷ canon names a (Close ∷ rest)
canon names (text_of a) rest = Word keyword.Text ∷ Open ∷ canon names a (Close ∷ rest)
canon names sum_of_members rest = Word keyword.Sum ∷ Open ∷ Close ∷ rest
canon names count_of_members rest = Word keyword.Count ∷ Open ∷ Close ∷ rest
canon names least_member rest = Word keyword.Min ∷ Open ∷ Close ∷ rest
canon names greatest_member rest = Word keyword.Max ∷ Open ∷ Close ∷ rest

-- levels of the text that canonical tokens need: two for each level of the tree where they begin with a bracket, else one less
abbrev pub room : Bool → ℕ → ℕ
room true d = d
room false d = suc d

module _ (names : Names) (apart : (k : ℕ) → k < length names → name_index names (name_at names k) ≡ k) where
  -- what is spelled at the level of `-` stands at the looser ones
  to_product : {d : ℕ} {ts rest : List Token} {e : Tree} → Spells names Unary d ts e rest → Spells names Product d ts e rest
  to_product s = as_tighter s

  to_sum : {d : ℕ} {ts rest : List Token} {e : Tree} → Spells names Unary d ts e rest → Spells names Sum d ts e rest
  to_sum s = as_tighter (to_product s)

  to_denial : {d : ℕ} {ts rest : List Token} {e : Tree} → Spells names Unary d ts e rest → Spells names Denial d ts e rest
  to_denial s = as_tighter (as_tighter (to_sum s))

  from_denial : {d : ℕ} {ts rest : List Token} {e : Tree} → Spells names Denial d ts e rest → Spells names Whole d ts e rest
  from_denial s = as_tighter (as_tighter (as_tighter s))

  from_comparison : {d : ℕ} {ts rest : List Token} {e : Tree} → Spells names Comparison d ts e rest → Spells names Whole d ts e rest
  from_comparison s = from_denial (as_tighter s)

  pub to_whole : {d : ℕ} {ts rest : List Token} {e : Tree} → Spells names Unary d ts e rest → Spells names Whole d ts e rest
  to_whole s = from_denial (to_denial s)

  pairs : (o : Op) {d : ℕ} {ts us rest : List Token} {a b : Tree} → Spells names Unary d ts a (sign_of o ∷ us) → Spells names Unary d us b rest → Spells names Whole d ts (pair o a b) rest
  pairs op.Add s t = from_comparison (as_tighter (joined {L = Sum} {op = op.Add} tt refl (to_sum s) (to_product t)))
  pairs op.Sub s t = from_comparison (as_tighter (joined {L = Sum} {op = op.Sub} tt refl (to_sum s) (to_product t)))
  pairs op.Join s t = from_comparison (as_tighter (joined {L = Sum} {op = op.Join} tt refl (to_sum s) (to_product t)))
  pairs op.Mul s t = from_comparison (as_tighter (as_tighter (joined {L = Product} {op = op.Mul} tt refl (to_product s) t)))
  pairs op.Div s t = from_comparison (as_tighter (as_tighter (joined {L = Product} {op = op.Div} tt refl (to_product s) t)))
  pairs op.Rem s t = from_comparison (as_tighter (as_tighter (joined {L = Product} {op = op.Rem} tt refl (to_product s) t)))
  pairs op.Eq s t = from_comparison (comparison {op = op.Eq} refl (to_sum s) (to_sum t))
  pairs op.Ne s t = from_comparison (comparison {op = op.Ne} refl (to_sum s) (to_sum t))
  pairs op.Lt s t = from_comparison (comparison {op = op.Lt} refl (to_sum s) (to_sum t))
  pairs op.Le s t = from_comparison (comparison {op = op.Le} refl (to_sum s) (to_sum t))
  pairs op.Gt s t = from_comparison (comparison {op = op.Gt} refl (to_sum s) (to_sum t))
  pairs op.Ge s t = from_comparison (comparison {op = op.Ge} refl (to_sum s) (to_sum t))
  pairs op.And s t = as_tighter (as_tighter (joined {L = Conjunction} {op = op.And} tt refl (as_tighter (to_denial s)) (to_denial t)))
  pairs op.Or s t = as_tighter (joined {L = Disjunction} {op = op.Or} tt refl (as_tighter (as_tighter (to_denial s))) (as_tighter (to_denial t)))

  deep : (a : Tree) → 1 ≤ depth a
  deep (number z) = omega arith
  deep (words text) = omega arith
  deep (given k) = omega arith
  deep (negated a) = omega arith
  deep (denied a) = omega arith
  deep (pair o a b) = omega arith
  deep (choice c a b) = omega arith
  deep (len_of a) = omega arith
  deep (number_of a) = omega arith
  deep (text_of a) = omega arith
  deep sum_of_members = omega arith
  deep count_of_members = omega arith
  deep least_member = omega arith
  deep greatest_member = omega arith

  room_enough : (b : Bool) (n d : ℕ) → 2 * n ≤ d → 2 * n ≤ room b d
  room_enough true n d h = h
  room_enough false n d h = omega arith

  -- brackets round what has none
  wrapped_spells : (b : Bool) (ts : List Token → List Token) (a : Tree) (d : ℕ) (rest : List Token) → 2 * depth a ≤ d
      → ((k : ℕ) (us : List Token) → 2 * depth a ≤ room b k → Spells names Unary k (ts us) a us) → Spells names Unary d (in_brackets_if b ts rest) a rest
  wrapped_spells true ts a d rest h s = s d rest h
  wrapped_spells false ts a zero rest h s = absurd (omega (arith, deep a))
  wrapped_spells false ts a (suc d) rest h s = as_tighter (in_brackets (to_whole (s d (Close ∷ rest) h)))

  -- the canonical tokens of a tree that can be written spell it
  pub spells : (e : Tree) (d : ℕ) (rest : List Token) → IsWritable names e → 2 * depth e ≤ room (has_bracket e) d → Spells names Unary d (canon names e rest) e rest
  unfolding canon
  spells (number (pos n)) d rest w h = as_tighter (whole_number w)
  spells (number (negsuc n)) d rest w h = as_tighter (negative_number {n = suc n} (omega arith))
  spells (words text) d rest w h = as_tighter (quoted_text (quoted_is_literal text w.0 w.1))
  spells (given k) d rest w h = as_tighter (subst (λ (n : ℕ). Spells names Operand d (Name (name_at names k) ∷ rest) (given n) rest) (apart k w) named)
  spells (negated a) zero rest w h = absurd (omega (arith, deep a))
  spells (negated a) (suc d) rest w h = negation (wrapped_spells (has_bracket a) (canon names a) a d rest (omega arith) (λ k us g. spells a k us w g))
  spells (denied a) zero rest w h = absurd (omega (arith, deep a))
  spells (denied a) (suc zero) rest w h = absurd (omega (arith, deep a))
  spells (denied a) (suc (suc d)) rest w h = as_tighter (in_brackets (from_denial (denial (to_denial (wrapped_spells (has_bracket a) (canon names a) a d (Close ∷ rest) (omega arith) (λ k us g. spells a k us w g))))))
  spells (pair o a b) zero rest w h = absurd (omega (arith, deep a))
  spells (pair o a b) (suc d) rest w h =
      as_tighter (in_brackets (pairs o
      (spells a d (sign_of o ∷ canon names b (Close ∷ rest)) w.0 (room_enough (has_bracket a) (depth a) d (omega arith)))
      (spells b d (Close ∷ rest) w.1 (room_enough (has_bracket b) (depth b) d (omega arith)))))
  spells (choice c a b) zero rest w h = absurd (omega (arith, deep a))
  spells (choice c a b) (suc zero) rest w h = absurd (omega (arith, deep a))
  spells (choice c a b) (suc (suc d)) rest w h =
      as_tighter (in_brackets (if_then_else
      (to_whole (spells c d (Word keyword.Then ∷ canon names a (Word keyword.Else ∷ canon names b (Close ∷ rest))) w.0 (room_enough (has_bracket c) (depth c) d (omega arith))))
      (to_whole (spells a d (Word keyword.Else ∷ canon names b (Close ∷ rest)) w.1 (room_enough (has_bracket a) (depth a) d (omega arith))))
      (to_whole (spells b d (Close ∷ rest) w.2 (room_enough (has_bracket b) (depth b) d (omega arith))))))
  spells (len_of a) zero rest w h = absurd (omega (arith, deep a))
  spells (len_of a) (suc d) rest w h = as_tighter (call {word = keyword.Len} {form = form.Len} refl (to_whole (spells a d (Close ∷ rest) w (room_enough (has_bracket a) (depth a) d (omega arith)))))
  spells (number_of a) zero rest w h = absurd (omega (arith, deep a))
  spells (number_of a) (suc d) rest w h = as_tighter (call {word = keyword.Number} {form = form.Number} refl (to_whole (spells a d (Close ∷ rest) w (room_enough (has_bracket a) (depth a) d (omega arith)))))
  spells (text_of a) zero rest w h = absurd (omega (arith, deep a))
  spells (text_of a) (suc d) rest w h = as_tighter (call {word = keyword.Text} {form = form.TextOf} refl (to_whole (spells a d (Close ∷ rest) w (room_enough (has_bracket a) (depth a) d (omega arith)))))
  spells sum_of_members zero rest w h = absurd (omega arith)
  spells sum_of_members (suc d) rest w h = as_tighter (member_call {word = keyword.Sum} {a = aggregate.Sum} refl)
  spells count_of_members zero rest w h = absurd (omega arith)
  spells count_of_members (suc d) rest w h = as_tighter (member_call {word = keyword.Count} {a = aggregate.Count} refl)
  spells least_member zero rest w h = absurd (omega arith)
  spells least_member (suc d) rest w h = as_tighter (member_call {word = keyword.Min} {a = aggregate.Min} refl)
  spells greatest_member zero rest w h = absurd (omega arith)
  spells greatest_member (suc d) rest w h = as_tighter (member_call {word = keyword.Max} {a = aggregate.Max} refl)
