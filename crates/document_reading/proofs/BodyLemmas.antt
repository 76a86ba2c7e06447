-- The tokens of an expression and those of its members.
use Rattle.std.proofs.Common.{◌≡◌, ℕ, suc, ◌+◌, ◌-◌, ◌<◌, Bool, true, false, not, cond, List, [], ◌∷◌, ◌++◌, length, take, drop, Result, refl, sym, ap, subst, ◌∙◌, arith, take-append-drop}
use Rattle.std.specs.List.{take_while}
use Rattle.std.proofs.lemmas.List.Sums.{take_while-cons}
use Rattle.std.proofs.lemmas.List.{append-nil, take_all, drop_all, take_rest}
use Rattle.std.proofs.Math.Seq.{take-append_seam, drop-append_seam}
use Rattle.svc_expr.proofs.Laws.{one_expression}
use Rattle.svc_expr.proofs.OverLemmas.{overs, no_over}
use Rattle.svc_expr.proofs.TreeLaws.{one_tree}
use Rattle.svc_expr.specs.Tree.{tree_of, IsSmall}
use Rattle.svc_token.specs.declared.keyword.Keyword.TheVariants as keyword
use Rattle.svc_token.specs.declared.token.Token.{Token}
use Rattle.svc_token.specs.declared.token.Token.TheVariants.{Keyword}
use Rattle.document_reading.specs.declared.statement.Body.{Body}
use Rattle.document_reading.specs.declared.statement.Body.TheVariants.{Formula}
use Rattle.document_reading.specs.declared.line_error.LineError.{LineError}
use Rattle.document_reading.specs.Grammar.{AreMembers, IsOver, small, large, IsBody, alone, over}
use Rattle.document_reading.specs.Reading.{is_over, over_at, Fails, ParsesAs}
use Rattle.document_reading.proofs.ResultLemmas.{fails_so, answers_so}
use Rattle.document_reading.proofs.MemberLemmas.{one_members}

-- ---- the first `over`

over_step : (t : Token) (ts : List Token) → over_at (t ∷ ts) ≡ cond (is_over t) 0 (suc (over_at ts))
over_step t ts =
    ap length (take_while-cons (λ u. not (is_over u)) t ts)
    ∙ elim (is_over t) as (λ b. length (cond (not b) (t ∷ take_while (λ u. not (is_over u)) ts) []) ≡ cond b 0 (suc (over_at ts))) [
      | true ↦ refl
      | false ↦ refl
    ]

overs_step : (t : Token) (ts : List Token) → overs (t ∷ ts) ≡ cond (is_over t) (suc (overs ts)) (overs ts)
overs_step (Keyword keyword.Over) ts = refl
overs_step t ts = refl

word_is : (t : Token) → is_over t ≡ true → t ≡ Keyword keyword.Over
word_is (Keyword keyword.Over) h = refl
word_is t h = absurd (cc)

-- behind tokens without `over`
past_front : (ts rest : List Token) → overs ts ≡ 0 → over_at (ts ++ rest) ≡ length ts + over_at rest
past_front [] rest h = omega arith
past_front (t ∷ ts) rest h = by (past_front ts rest) (is_over t) refl
  where
    by : (overs ts ≡ 0 → over_at (ts ++ rest) ≡ length ts + over_at rest) → (b : Bool) → is_over t ≡ b → over_at (t ∷ ts ++ rest) ≡ length (t ∷ ts) + over_at rest
    by on true e =
        let one : overs (t ∷ ts) ≡ suc (overs ts) = overs_step t ts ∙ ap (λ (b : Bool). cond b (suc (overs ts)) (overs ts)) e in
        absurd (omega arith)
    by on false e =
        let none : overs ts ≡ 0 = sym (overs_step t ts ∙ ap (λ (b : Bool). cond b (suc (overs ts)) (overs ts)) e) ∙ h in
        let more : over_at (t ∷ ts ++ rest) ≡ suc (over_at (ts ++ rest)) = over_step t (ts ++ rest) ∙ ap (λ (b : Bool). cond b 0 (suc (over_at (ts ++ rest)))) e in
        let same : over_at (ts ++ rest) ≡ length ts + over_at rest = on none in
        omega arith

first_over : (ts behind : List Token) → overs ts ≡ 0 → over_at (ts ++ Keyword keyword.Over ∷ behind) ≡ length ts
first_over ts behind h =
    let here : over_at (Keyword keyword.Over ∷ behind) ≡ 0 = over_step (Keyword keyword.Over) behind in
    let all : over_at (ts ++ Keyword keyword.Over ∷ behind) ≡ length ts + over_at (Keyword keyword.Over ∷ behind) = past_front ts (Keyword keyword.Over ∷ behind) h in
    omega arith

nowhere : (ts : List Token) → overs ts ≡ 0 → over_at ts ≡ length ts
nowhere ts h =
    let all : over_at (ts ++ []) ≡ length ts + over_at [] = past_front ts [] h in
    let here : over_at [] ≡ 0 = refl in
    let same : over_at (ts ++ []) ≡ over_at ts = ap over_at (append-nil ts) in
    omega arith

tail_is : (t u : Token) (ts us : List Token) → t ∷ ts ≡ u ∷ us → (t ≡ u) × (ts ≡ us)
tail_is t u ts us e = (cc, cc)

-- what stands there is `over`
stands_there : (ts : List Token) (t : Token) (behind : List Token) → drop (over_at ts) ts ≡ t ∷ behind → t ≡ Keyword keyword.Over
stands_there [] t behind h = absurd (cc)
stands_there (u ∷ ts) t behind h = by (stands_there ts t behind) (is_over u) refl
  where
    by : (drop (over_at ts) ts ≡ t ∷ behind → t ≡ Keyword keyword.Over) → (b : Bool) → is_over u ≡ b → t ≡ Keyword keyword.Over
    by on true e =
        let here : over_at (u ∷ ts) ≡ 0 = over_step u ts ∙ ap (λ (b : Bool). cond b 0 (suc (over_at ts))) e in
        let same : u ∷ ts ≡ t ∷ behind = sym (ap (λ (n : ℕ). drop n (u ∷ ts)) here) ∙ h in
        sym (tail_is u t ts behind same).0 ∙ word_is u e
    by on false e =
        let more : over_at (u ∷ ts) ≡ suc (over_at ts) = over_step u ts ∙ ap (λ (b : Bool). cond b 0 (suc (over_at ts))) e in
        on (sym (ap (λ (n : ℕ). drop n (u ∷ ts)) more) ∙ h)

-- ---- bodies, by their parts

-- the expression, and what stands from `over` on
abbrev PartsSay : List Token → List Token → Body → Type 0
PartsSay before [] body = IsOver [] before body
PartsSay before (t ∷ behind) body = (members : List (List ℕ)) × IsOver members before body × AreMembers behind members

no_overs : {members : List (List ℕ)} {tokens : List Token} {body : Body} → IsOver members tokens body → overs tokens ≡ 0
no_overs (small {tokens = tokens} {expr = expr} {names = names} s h) = no_over tokens _ names s
no_overs (large {tokens = tokens} {e = e} {names = names} s h) = no_over tokens e names s

parts_at : (tokens before rest : List Token) (n : ℕ) (body : Body) → over_at tokens ≡ n → take n tokens ≡ before → drop n tokens ≡ rest → PartsSay before rest body
    → PartsSay (take (over_at tokens) tokens) (drop (over_at tokens) tokens) body
parts_at tokens before rest n body e f b p =
    subst (λ (n : ℕ). PartsSay (take n tokens) (drop n tokens) body) (sym e)
    (subst (λ (rest : List Token). PartsSay (take n tokens) rest body) (sym b) (subst (λ (before : List Token). PartsSay before rest body) (sym f) p))

-- the parts of a body say it
parts_of : {tokens : List Token} {body : Body} → IsBody tokens body → PartsSay (take (over_at tokens) tokens) (drop (over_at tokens) tokens) body
parts_of (alone {tokens = tokens} {body = body} p) =
    parts_at tokens tokens [] (length tokens) body (nowhere tokens (no_overs p)) (take_all (length tokens) tokens (omega arith)) (drop_all (length tokens) tokens (omega arith)) p
parts_of (over {tokens = ts} {behind = behind} {members = members} {body = body} p m) =
    parts_at (ts ++ Keyword keyword.Over ∷ behind) ts (Keyword keyword.Over ∷ behind) (length ts) body (first_over ts behind (no_overs p))
    (take-append_seam ts (Keyword keyword.Over ∷ behind)) (drop-append_seam ts (Keyword keyword.Over ∷ behind)) (members, p, m)

parts_are : (tokens before rest : List Token) (body : Body) → before ≡ take (over_at tokens) tokens → rest ≡ drop (over_at tokens) tokens → IsBody tokens body → PartsSay before rest body
parts_are tokens before rest body f b h =
    subst (λ (l : List Token). PartsSay before l body) (sym b)
    (subst (λ (l : List Token). PartsSay l (drop (over_at tokens) tokens) body) (sym f) (parts_of h))

-- and what the parts say is a body
body_of : (tokens before rest : List Token) (body : Body) → before ≡ take (over_at tokens) tokens → rest ≡ drop (over_at tokens) tokens → PartsSay before rest body → IsBody tokens body
body_of tokens before [] body f b p =
    let whole : before ≡ tokens = sym (append-nil before) ∙ ap (λ (l : List Token). before ++ l) b ∙ ap (λ (l : List Token). l ++ drop (over_at tokens) tokens) f ∙ take-append-drop (over_at tokens) tokens in
    subst (λ (ts : List Token). IsBody ts body) whole (alone p)
body_of tokens before (t ∷ behind) body f b p =
    let whole : before ++ t ∷ behind ≡ tokens = ap (λ (l : List Token). before ++ l) b ∙ ap (λ (l : List Token). l ++ drop (over_at tokens) tokens) f ∙ take-append-drop (over_at tokens) tokens in
    let is : t ≡ Keyword keyword.Over = stands_there tokens t behind (sym b) in
    subst (λ (ts : List Token). IsBody ts body) (ap (λ (u : Token). before ++ u ∷ behind) (sym is) ∙ whole) (over p.1 p.2)

-- ---- the body that a call makes of the parts

-- the expression stands alone
pub alone_is : (tokens before rest : List Token) (members : List (List ℕ)) → length rest < 1 → members ≡ [] → before ≡ take (over_at tokens) tokens → rest ≡ drop (over_at tokens) tokens
    → (result : Result Body LineError) → ParsesAs (IsOver members before) result → ParsesAs (IsBody tokens) result
alone_is tokens before (t ∷ behind) members none e f b result h = absurd (omega arith)
alone_is tokens before [] members none e f b result h =
    answers_so (IsOver members before) (IsBody tokens)
    (λ body p. body_of tokens before [] body f b (subst (λ (l : List (List ℕ)). IsOver l before body) e p))
    (λ body k. subst (λ (l : List (List ℕ)). IsOver l before body) (sym e) (parts_are tokens before [] body f b k)) result h

-- the members stand behind
pub over_is : (tokens before rest : List Token) (members : List (List ℕ)) → 0 < length rest → before ≡ take (over_at tokens) tokens → rest ≡ drop (over_at tokens) tokens
    → AreMembers (take (length rest - 1) (drop 1 rest)) members → (result : Result Body LineError) → ParsesAs (IsOver members before) result → ParsesAs (IsBody tokens) result
over_is tokens before [] members some f b m result h = absurd (omega arith)
over_is tokens before (t ∷ behind) members some f b m result h =
    let all : AreMembers behind members = subst (λ (l : List Token). AreMembers l members) (take_rest (t ∷ behind) 1) m in
    answers_so (IsOver members before) (IsBody tokens)
    (λ body p. body_of tokens before (t ∷ behind) body f b (members, p, all))
    (λ body k. let parts = parts_are tokens before (t ∷ behind) body f b k in subst (λ (l : List (List ℕ)). IsOver l before body) (one_members parts.2 all) parts.1) result h

-- what stands behind is no list of members
pub no_members : (tokens before rest : List Token) → 0 < length rest → before ≡ take (over_at tokens) tokens → rest ≡ drop (over_at tokens) tokens
    → (stop : LineError) → Fails (AreMembers (take (length rest - 1) (drop 1 rest))) stop → Fails (IsBody tokens) stop
no_members tokens before [] some f b stop h = absurd (omega arith)
no_members tokens before (t ∷ behind) some f b stop h =
    fails_so (AreMembers (take (length (t ∷ behind) - 1) (drop 1 (t ∷ behind)))) (IsBody tokens)
    (λ body k.
    let parts = parts_are tokens before (t ∷ behind) body f b k in
    (parts.0, subst (λ (l : List Token). AreMembers l parts.0) (sym (take_rest (t ∷ behind) 1)) parts.2)) stop h

-- ---- one body

one_over : {members : List (List ℕ)} {tokens : List Token} {a b : Body} → IsOver members tokens a → IsOver members tokens b → a ≡ b
one_over {members = members} (small {tokens = tokens} {expr = x} {names = n} s h) (small {expr = y} {names = m} t k) =
    let same = one_expression tokens (tree_of x) (tree_of y) n m s t in
    let expr : x ≡ y = one_tree x y same.0 in
    λ i. Formula (record { expr = expr i; names = same.1 i; members = members })
one_over (small {tokens = tokens} {expr = x} {names = n} s h) (large {e = e} {names = m} t k) =
    absurd (k (subst IsSmall (one_expression tokens (tree_of x) e n m s t).0 h))
one_over (large {tokens = tokens} {e = e} {names = n} s h) (small {expr = y} {names = m} t k) =
    absurd (h (subst IsSmall (one_expression tokens (tree_of y) e m n t s).0 k))
one_over (large s h) (large t k) = refl

one_of_parts : (before rest : List Token) (a b : Body) → PartsSay before rest a → PartsSay before rest b → a ≡ b
one_of_parts before [] a b p q = one_over p q
one_of_parts before (t ∷ behind) a b p q = one_over p.1 (subst (λ (l : List (List ℕ)). IsOver l before b) (one_members q.2 p.2) q.1)

-- tokens are one body at most
pub one_body : {tokens : List Token} {a b : Body} → IsBody tokens a → IsBody tokens b → a ≡ b
one_body {tokens = tokens} {a = a} {b = b} p q = one_of_parts (take (over_at tokens) tokens) (drop (over_at tokens) tokens) a b (parts_of p) (parts_of q)
