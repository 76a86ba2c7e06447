-- Tokens have at most one tree, and reading answers it.
use Rattle.std.proofs.Common.{◌≡◌, ℕ, ◌≤◌, Bool, true, false, cond, List, [], ◌∷◌, take, Option, Some, None, Result, Ok, Err, refl, sym, ap, subst, ◌∙◌, arith}
use Rattle.std.specs.Prelude.{nat_le, ◌&&◌, IfOk}
use Rattle.std.proofs.lemmas.Bool.{leb-true, le-leb, and_parts, and_from}
use Rattle.std.proofs.lemmas.List.{take_all}
use Rattle.svc_token.specs.declared.token.Token.{Token}
use Rattle.svc_expr.specs.declared.level.Level.TheVariants.{Whole}
use Rattle.svc_expr.specs.declared.expr.Expr.{Expr}
use Rattle.svc_expr.specs.declared.errors.ExprError.{ExprError}
use Rattle.svc_expr.specs.declared.errors.ExprError.TheVariants.{Bad, TooLarge}
use Rattle.svc_expr.specs.Tree.{Tree, tree_of, nodes, depth, IsSmall}
use Rattle.svc_expr.specs.Types.{name_count}
use Rattle.svc_expr.specs.Grammar.{with_names, names_among, Spells, IsExpression}
use Rattle.svc_expr.specs.Reading.{Part, Read, naming, level_at, inner, all_read}
use Rattle.svc_expr.specs.SizedExpr.{fit, reading, Answers}
use Rattle.svc_expr.proofs.Sizes.{keeps_all, keeps_small}
use Rattle.svc_expr.proofs.Sound.{some_is, is_sound}
use Rattle.svc_expr.proofs.Complete.{is_complete}
use Rattle.svc_expr.proofs.NameLemmas.{Names, naming_taken, few_names, low_names}

same_tree : (a b : Tree) (r : Read) → r ≡ Some (Some a, []) → r ≡ Some (Some b, []) → a ≡ b
same_tree a b r p q =
    let e = ap (λ (z : Part × List Token). z.0) (some_is (Some a, []) (Some b, []) (sym p ∙ q)) in
    cc

one_spelled : (names : Names) (ts : List Token) (a b : Tree) → Spells names Whole 64 ts a [] → Spells names Whole 64 ts b [] → a ≡ b
one_spelled names ts a b s t = same_tree a b (level_at Some (naming Some names) (inner Some (naming Some names) 64) Whole ts) (is_complete Some keeps_all names s refl) (is_complete Some keeps_all names t refl)

-- an expression has one tree and one list of names
pub one_expression : (ts : List Token) (a b : Tree) (n m : Names) → IsExpression ts a n → IsExpression ts b m → (a ≡ b) × (n ≡ m)
one_expression ts a b n m s t =
    let e = t.0 ∙ sym s.0 in
    (one_spelled n ts a b s.1 (subst (λ (l : Names). Spells l Whole 64 ts b []) e t.1), sym e)

text_is_read : (names : Names) (ts : List Token) (e : Tree) → Spells names Whole 64 ts e [] → reading names ts ≡ Some (fit e)
unfolding reading
text_is_read names ts e s = ap all_read (is_complete fit keeps_small names s refl)

abbrev read_again : Option Part → Read
read_again (Some p) = Some (p, [])
read_again None = None

whole_read : (r : Read) (p : Part) → all_read r ≡ Some p → r ≡ Some (p, [])
whole_read (Some (x, [])) p h = ap (λ (z : Option Part). read_again z) h
whole_read (Some (x, (t ∷ ts))) p h = absurd (cc)
whole_read None p h = absurd (cc)

read_is_text : (names : Names) (ts : List Token) (p : Part) → reading names ts ≡ Some p → (e : Tree) × Spells names Whole 64 ts e [] × (p ≡ fit e)
unfolding reading
read_is_text names ts p h =
    let f = is_sound fit keeps_small names 64 Whole ts (p, []) (whole_read (level_at fit (naming fit names) (inner fit (naming fit names) 64) Whole ts) p h) in
    (f.tree, f.spelled, f.same)

kept : (b : Bool) (a e : Tree) → Some a ≡ cond b (Some e) None → (a ≡ e) × (b ≡ true)
kept true a e h = (cc, refl)
kept false a e h = absurd (cc)

fit_is : (a e : Tree) → Some a ≡ fit e → (a ≡ e) × IsSmall e
unfolding fit
fit_is a e h =
    let k = kept (nat_le (nodes e) 128 && nat_le (depth e) 32 && nat_le (name_count e) 256) a e h in
    let p = and_parts (nat_le (nodes e) 128 && nat_le (depth e) 32) (nat_le (name_count e) 256) k.1 in
    let q = and_parts (nat_le (nodes e) 128) (nat_le (depth e) 32) p.0 in
    (k.0, (leb-true (nodes e) 128 q.0, leb-true (depth e) 32 q.1))

fits : (e : Tree) → IsSmall e → name_count e ≤ 256 → fit e ≡ Some e
unfolding fit
fits e h n =
    ap (λ (b : Bool). cond b (Some e) None)
    (and_from (nat_le (nodes e) 128 && nat_le (depth e) 32) (nat_le (name_count e) 256)
    (and_from (nat_le (nodes e) 128) (nat_le (depth e) 32) (le-leb (nodes e) 128 h.0) (le-leb (depth e) 32 h.1)) (le-leb (name_count e) 256 n))

no_part : (o : Option Tree) (e : Tree) → o ≡ None → o ≡ Some e → ⊥
no_part o e h g = cc

not_read : (o : Option Part) (x : Part) → o ≡ None → o ≡ Some x → ⊥
not_read o x h g = cc

-- the names of the tokens
abbrev names_of : List Token → Names
names_of ts = with_names [] (names_among ts)

-- the first 256 names are as good as all
taken_reads : (names : Names) (ts : List Token) → reading (take 256 names) ts ≡ reading names ts
unfolding reading
taken_reads names ts = ap (λ (f : List ℕ → Part). all_read (level_at fit f (inner fit f 64) Whole ts)) (naming_taken names)

reads : (names : Names) (ts : List Token) → names ≡ take 256 (names_of ts) → reading names ts ≡ reading (names_of ts) ts
reads names ts h = ap (λ (l : Names). reading l ts) h ∙ taken_reads (names_of ts) ts

not_small : (ts : List Token) (e : Tree) → Spells (names_of ts) Whole 64 ts e [] → None ≡ fit e → IsSmall e → ⊥
not_small ts e s h small =
    let few = few_names (names_of ts) refl s in
    let low = low_names (names_of ts) s in
    let n = small.0 in
    no_part (fit e) e (sym h) (fits e small (omega arith))

-- the clauses of reading, from what it answers
pub found_law : (names : Names) (ts : List Token) (r : Result Expr ExprError) → names ≡ take 256 (names_of ts) → Answers r (reading names ts) → IfOk r (λ e. IsExpression ts (tree_of e) names × IsSmall (tree_of e))
found_law names ts (Ok x) n h =
    let f = read_is_text (names_of ts) ts (Some (tree_of x)) (sym (reads names ts n) ∙ h) in
    let s = fit_is (tree_of x) f.0 f.2 in
    let few = few_names (names_of ts) refl f.1 in
    let small = s.1.0 in
    let all : names ≡ names_of ts = n ∙ take_all 256 (names_of ts) (omega arith) in
    ((all, subst (λ (l : Names). Spells l Whole 64 ts (tree_of x) []) (sym all) (subst (λ (e : Tree). Spells (names_of ts) Whole 64 ts e []) (sym s.0) f.1)), subst IsSmall (sym s.0) s.1)
found_law names ts (Err e) n h = tt

pub bad_law : (names : Names) (ts : List Token) (r : Result Expr ExprError) → names ≡ take 256 (names_of ts) → Answers r (reading names ts) → r ≡ Err Bad → (e : Tree) (other : Names) → IsExpression ts e other → ⊥
bad_law names ts r n h b e other s =
    let q : reading names ts ≡ None = subst (λ (q : Result Expr ExprError). Answers q (reading names ts)) b h in
    not_read (reading (names_of ts) ts) (fit e) (sym (reads names ts n) ∙ q) (text_is_read (names_of ts) ts e (subst (λ (l : Names). Spells l Whole 64 ts e []) s.0 s.1))

pub large_law : (names : Names) (ts : List Token) (r : Result Expr ExprError) → names ≡ take 256 (names_of ts) → Answers r (reading names ts) → r ≡ Err TooLarge → (e : Tree) × (other : Names) × IsExpression ts e other × (IsSmall e → ⊥)
large_law names ts r n h b =
    let q : reading names ts ≡ Some None = subst (λ (q : Result Expr ExprError). Answers q (reading names ts)) b h in
    let f = read_is_text (names_of ts) ts None (sym (reads names ts n) ∙ q) in
    (f.0, names_of ts, (refl, f.1), not_small ts f.0 f.1 f.2)

-- the error of a result
pub error_is : {T : Type 0} → (a b : ExprError) → ◌≡◌ {A = Result T ExprError} (Err a) (Err b) → a ≡ b
error_is a b h = cc
