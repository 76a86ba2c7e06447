-- The code reads as the function does.
use Rattle.std.proofs.Common.{◌≡◌, ℕ, zero, suc, ◌+◌, ◌-◌, ◌<◌, ◌≤◌, Bool, nat_lt, List, [], ◌∷◌, length, get_or, take, drop, Option, Some, None, refl, sym, ap, ◌∙◌, arith}
use Rattle.std.proofs.lemmas.Bool.{lt-ltb}
use Rattle.std.proofs.lemmas.List.{take_rest}
use Rattle.svc_token.specs.declared.token.Token.{Token}
use Rattle.svc_expr.specs.declared.level.Level.{Level}
use Rattle.svc_expr.specs.declared.level.Level.TheVariants.{Disjunction, Conjunction, Sum, Product}
use Rattle.svc_expr.specs.declared.expr.Op.{Op}
use Rattle.svc_expr.specs.declared.level.Form.{Form}
use Rattle.svc_expr.specs.declared.level.Aggregate.{Aggregate}
use Rattle.svc_expr.specs.declared.sized_expr.ReadError.{ReadError}
use Rattle.svc_expr.specs.declared.sized_expr.ReadError.TheVariants.{Memory, Bad}
use Rattle.svc_expr.specs.Tree.{Tree}
use Rattle.svc_expr.specs.SizedExpr.{Fails}
use Rattle.svc_expr.specs.Grammar.{level_number, tighter, joins, IsLeft}
use Rattle.svc_expr.specs.Reading.{Part, Read, ◌>>=◌, Inner, called_at, aggregate_at, with_op, pair_part, chain, chained, level_at, inner}

-- tighter levels have lower ranks
abbrev pub rank : Level → ℕ
rank L = 10 - level_number L

pub rank_tighter : (L : Level) → IsLeft L → rank L ≡ rank (tighter L) + 1
rank_tighter Disjunction h = refl
rank_tighter Conjunction h = refl
rank_tighter Sum h = refl
rank_tighter Product h = refl
rank_tighter L h = absurd h

pub left_is : (keep : Tree → Part) (named : List ℕ → Part) (sub : Inner) (L : Level) (ts : List Token) → IsLeft L → level_at keep named sub L ts ≡ chained keep named (level_at keep named sub (tighter L)) L ts
left_is keep named sub Disjunction ts h = refl
left_is keep named sub Conjunction ts h = refl
left_is keep named sub Sum ts h = refl
left_is keep named sub Product ts h = refl
left_is keep named sub L ts h = absurd h

-- a level of the text is entered while there is one left
pub entered : (keep : Tree → Part) (named : List ℕ → Part) (d : ℕ) (L : Level) (ts : List Token) → 0 < d → (inner keep named d).enter L ts ≡ level_at keep named (inner keep named (d - 1)) L ts
unfolding inner
entered keep named d L ts h =
    let k : d ≡ suc (d - 1) = omega arith in
    ap (λ (n : ℕ). (inner keep named n).enter L ts) k

pub not_entered : (keep : Tree → Part) (named : List ℕ → Part) (d : ℕ) (L : Level) (ts : List Token) → d ≡ 0 → (inner keep named d).enter L ts ≡ None
unfolding inner
not_entered keep named d L ts h = ap (λ (n : ℕ). (inner keep named n).enter L ts) h

pub room_is : (keep : Tree → Part) (named : List ℕ → Part) (d : ℕ) → (inner keep named d).room ≡ nat_lt 0 d
unfolding inner
room_is keep named zero = refl
room_is keep named (suc d) = sym (lt-ltb 0 (suc d) (omega arith))

-- a keyword that names no call of one operand
pub called_members : (keep : Tree → Part) (named : List ℕ → Part) (d : ℕ) (o : Option Form) (a : Option Aggregate) (ts : List Token) → o ≡ None → called_at keep named (inner keep named d) o a ts ≡ aggregate_at keep (nat_lt 0 d) a ts
called_members keep named d o a ts h =
    ap (λ (f : Option Form). called_at keep named (inner keep named d) f a ts) h ∙ ap (λ (b : Bool). aggregate_at keep b a ts) (room_is keep named d)

module _ (keep : Tree → Part) (named : List ℕ → Part) (next : List Token → Read) (L : Level) (total : Read) where
  -- the loop ends where its bound does
  pub bound_ends : (n : ℕ) (x : Part) (ts : List Token) → n ≡ 0 → chain keep named next L n x ts ≡ total → total ≡ Some (x, ts)
  unfolding chain
  bound_ends n x ts h so_far = sym so_far ∙ ap (λ (k : ℕ). chain keep named next L k x ts) h

  -- where no token is left
  pub end_ends : (n : ℕ) (x : Part) (ts : List Token) → length ts < 1 → chain keep named next L n x ts ≡ total → total ≡ Some (x, ts)
  unfolding chain
  end_ends zero x ts h so_far = sym so_far
  end_ends (suc n) x [] h so_far = sym so_far
  end_ends (suc n) x (t ∷ ts) h so_far = absurd (omega arith)

  -- where no operator stands
  pub op_ends : (n : ℕ) (x : Part) (ts : List Token) (t : Token) → t ≡ get_or ts 0 t → 1 ≤ length ts → joins L t ≡ None → chain keep named next L n x ts ≡ total → total ≡ Some (x, ts)
  unfolding chain
  op_ends zero x ts t e g h so_far = sym so_far
  op_ends (suc n) x [] t e g h so_far = absurd (omega arith)
  op_ends (suc n) x (u ∷ ts) t e g h so_far = sym so_far ∙ ap (λ (o : Option Op). with_op o (Some (x, u ∷ ts)) (λ op. next ts >>= λ y. chain keep named next L n (pair_part keep op x y.0) y.1)) (ap (joins L) (sym e) ∙ h)

  one_step : (n : ℕ) (x : Part) (ts : List Token) (t : Token) (op : Op) → t ≡ get_or ts 0 t → 1 ≤ length ts → joins L t ≡ Some op
      → chain keep named next L (suc n) x ts ≡ (next (drop 1 ts) >>= λ y. chain keep named next L n (pair_part keep op x y.0) y.1)
  unfolding chain
  one_step n x [] t op e g h = absurd (omega arith)
  one_step n x (u ∷ ts) t op e g h = ap (λ (o : Option Op). with_op o (Some (x, u ∷ ts)) (λ op. next ts >>= λ y. chain keep named next L n (pair_part keep op x y.0) y.1)) (ap (joins L) (sym e) ∙ h)

  step_at : (n i : ℕ) (x : Part) (ts : List Token) (t : Token) (op : Op) → i < n → t ≡ get_or ts 0 t → 1 ≤ length ts → joins L t ≡ Some op
      → chain keep named next L (n - i) x ts ≡ (next (drop 1 ts) >>= λ y. chain keep named next L (n - (i + 1)) (pair_part keep op x y.0) y.1)
  step_at n i x ts t op lt e g h =
      let k : n - i ≡ suc (n - (i + 1)) = omega arith in
      ap (λ (m : ℕ). chain keep named next L m x ts) k ∙ one_step (n - (i + 1)) x ts t op e g h

  -- a slice behind its first token, as the code shows it
  behind : (ts : List Token) → next (take (length ts - 1) (drop 1 ts)) ≡ next (drop 1 ts)
  behind ts = ap next (take_rest ts 1)

  -- an operator and its right side
  pub step_goes : (n i : ℕ) (x y : Part) (ts us : List Token) (t : Token) (op : Op) → i < n → t ≡ get_or ts 0 t → 1 ≤ length ts → joins L t ≡ Some op → next (take (length ts - 1) (drop 1 ts)) ≡ Some (y, us)
      → chain keep named next L (n - i) x ts ≡ total → chain keep named next L (n - (i + 1)) (pair_part keep op x y) us ≡ total
  step_goes n i x y ts us t op lt e g h r so_far =
      sym (step_at n i x ts t op lt e g h ∙ ap (λ (q : Read). q >>= λ z. chain keep named next L (n - (i + 1)) (pair_part keep op x z.0) z.1) (sym (behind ts) ∙ r)) ∙ so_far

  -- an operator without one
  pub step_fails : (f : ReadError) (n i : ℕ) (x : Part) (ts : List Token) (t : Token) (op : Op) → i < n → t ≡ get_or ts 0 t → 1 ≤ length ts → joins L t ≡ Some op → Fails f (next (take (length ts - 1) (drop 1 ts)))
      → chain keep named next L (n - i) x ts ≡ total → Fails f total
  step_fails Memory n i x ts t op lt e g h r so_far = tt
  step_fails Bad n i x ts t op lt e g h r so_far =
      sym so_far ∙ step_at n i x ts t op lt e g h ∙ ap (λ (q : Read). q >>= λ z. chain keep named next L (n - (i + 1)) (pair_part keep op x z.0) z.1) (sym (behind ts) ∙ r)
