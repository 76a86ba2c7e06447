-- The names of an expression, and the numbers by which its tree mentions them.
use Rattle.std.proofs.Common.{◌≡◌, ℕ, zero, suc, ◌+◌, ◌<◌, ◌≤◌, min, max, Bool, true, false, not, cond, if◌then◌else◌, nat_lt, inl, inr, List, [], ◌∷◌, ◌++◌, map, length, take, drop, Option, Some, None, refl, sym, ap, ◌∙◌, append_assoc, length-append, arith, subst}
use Rattle.std.specs.Prelude.{◌==◌, nat_le, ◌&&◌}
use Rattle.std.specs.List.{prefix_len}
use Rattle.std.specs.Str.{bytes_eq}
use Rattle.std.proofs.Math.ListN.{get_or-append}
use Rattle.std.proofs.Math.Seq.{get_or-append_seam}
use Rattle.std.proofs.lemmas.Bool.{and_from, eq-eqb, lt-ltb, le-ltb, lt-leb, cases_lt}
use Rattle.std.proofs.lemmas.List.{length-map, append-nil, take_all, drop_all, take-append-le}
use Rattle.svc_token.specs.declared.token.Token.{Token}
use Rattle.svc_token.specs.declared.token.Token.TheVariants.{Name}
use Rattle.svc_expr.specs.declared.expr.Op.{Op}
use Rattle.svc_expr.specs.declared.level.Level.{Level}
use Rattle.svc_expr.specs.declared.level.Level.TheVariants.{Comparison}
use Rattle.svc_expr.specs.declared.level.Form.{Form}
use Rattle.svc_expr.specs.declared.level.Form.TheVariants as form
use Rattle.svc_expr.specs.declared.level.Aggregate.{Aggregate}
use Rattle.svc_expr.specs.declared.level.Aggregate.TheVariants as aggregate
use Rattle.svc_expr.specs.Tree.{Tree, number, words, given, negated, denied, pair, choice, len_of, number_of, text_of, sum_of_members, count_of_members, least_member, greatest_member, nodes}
use Rattle.svc_expr.specs.Types.{name_count, mentions}
use Rattle.svc_expr.specs.Grammar.{operator, at_level, joins, formed, aggregated, name_index, with_names, names_among, Spells, whole_number, negative_number, quoted_text, named, in_brackets, call, member_call, negation, joined, comparison, denial, if_then_else, as_tighter}
use Rattle.svc_expr.specs.Reading.{naming}
use Rattle.svc_expr.specs.Canonical.{name_at}
use Rattle.svc_expr.specs.SizedExpr.{fit}

abbrev pub Names : Type 0
Names = List (List ℕ)

-- names come behind those that are there
pub with_more : (names more : Names) → (rest : Names) × (with_names names more ≡ names ++ rest)
with_more names [] = ([], sym (append-nil names))
with_more names (name ∷ more) =
    elim (nat_lt (name_index names name) (length names)) as (λ b. (rest : Names) × (with_names (if b then names else names ++ name ∷ []) more ≡ names ++ rest)) [
      | true ↦ with_more names more
      | false ↦ let r = with_more (names ++ name ∷ []) more in (name ∷ r.0, r.1 ∙ append_assoc names (name ∷ []) r.0)
    ]

-- once there are enough names, more change nothing of the first
pub full : (names more : Names) (k : ℕ) → k ≤ length names → take k (with_names names more) ≡ take k names
full names more k h = let r = with_more names more in ap (take k) r.1 ∙ take-append-le k names r.0 h

-- one more name of a list
pub added : (names : Names) (name : List ℕ) (more : Names) → length names ≤ name_index names name → take 256 (with_names (names ++ name ∷ []) more) ≡ take 256 (with_names names (name ∷ more))
added names name more h = ap (λ (b : Bool). take 256 (with_names (if b then names else names ++ name ∷ []) more)) (sym (le-ltb (name_index names name) (length names) h))

pub known : (names : Names) (name : List ℕ) (more : Names) → name_index names name < length names → take 256 (with_names names more) ≡ take 256 (with_names names (name ∷ more))
known names name more h = ap (λ (b : Bool). take 256 (with_names (if b then names else names ++ name ∷ []) more)) (sym (lt-ltb (name_index names name) (length names) h))

pub filled : (names : Names) (name : List ℕ) (more : Names) → 256 ≤ length names → take 256 (with_names names more) ≡ take 256 (with_names names (name ∷ more))
filled names name more h =
    elim (nat_lt (name_index names name) (length names)) as (λ b. take 256 (with_names names more) ≡ take 256 (with_names (if b then names else names ++ name ∷ []) more)) [
      | true ↦ refl
      | false ↦ full names more 256 h ∙ sym (full (names ++ name ∷ []) more 256 (omega (arith, length-append names (name ∷ []))) ∙ take-append-le 256 names (name ∷ []) h)
    ]

pub all_gathered : (names all : Names) (ts : List Token) (i : ℕ) → length ts ≤ i → length names ≤ 256 → take 256 (with_names names (names_among (drop i ts))) ≡ all → names ≡ all
all_gathered names all ts i h g so_far = sym (take_all 256 names g) ∙ ap (λ (us : List Token). take 256 (with_names names (names_among us))) (sym (drop_all i ts h)) ∙ so_far

with_fewer : (names more : Names) → length (with_names names more) ≤ length names + length more
with_fewer names [] = omega arith
with_fewer names (name ∷ more) =
    elim (nat_lt (name_index names name) (length names)) as (λ b. length (with_names (if b then names else names ++ name ∷ []) more) ≤ length names + length (name ∷ more)) [
      | true ↦ let k = with_fewer names more in omega arith
      | false ↦ let k = with_fewer (names ++ name ∷ []) more in omega (arith, length-append names (name ∷ []))
    ]

-- a place among the first k names
prefix_take : (p : List ℕ → Bool) (k : ℕ) (xs : Names) → prefix_len p (take k xs) ≡ min k (prefix_len p xs)
prefix_take p zero xs = omega arith
prefix_take p (suc k) [] = omega arith
prefix_take p (suc k) (x ∷ xs) =
    elim (p x) as (λ b. cond b (1 + prefix_len p (take k xs)) 0 ≡ min (suc k) (cond b (1 + prefix_len p xs) 0)) [
      | true ↦ let h = prefix_take p k xs in omega arith
      | false ↦ omega arith
    ]

pub place_within : (names : Names) (name : List ℕ) → name_index names name ≤ length names
place_within [] name = omega arith
place_within (other ∷ names) name =
    elim (not (bytes_eq other name)) as (λ b. cond b (1 + name_index names name) 0 ≤ length (other ∷ names)) [
      | true ↦ let h = place_within names name in omega arith
      | false ↦ omega arith
    ]

fit_given : (k m : ℕ) → k ≡ min 256 m → fit (given k) ≡ fit (given m)
unfolding fit
fit_given k m h =
    elim (cases_lt m 256) [
      | inl l ↦ let e : k ≡ m = omega arith in ap (λ (n : ℕ). cond (true && true && nat_le (n + 1) 256) (Some (given n)) None) e
      | inr g ↦
          ap (λ (b : Bool). cond (true && true && b) (Some (given k)) None) (lt-leb (k + 1) 256 (omega arith))
          ∙ sym (ap (λ (b : Bool). cond (true && true && b) (Some (given m)) None) (lt-leb (m + 1) 256 (omega arith)))
    ]

-- the first 256 names are enough for the names of a tree within the limits
pub naming_taken : (names : Names) → naming fit (take 256 names) ≡ naming fit names
naming_taken names = λ i name. fit_given (name_index (take 256 names) name) (name_index names name) (prefix_take (λ other. not (bytes_eq other name)) 256 names) i

mentions_formed : (f : Form) (a : Tree) → mentions (formed f a) ≡ mentions a
mentions_formed form.Neg a = refl
mentions_formed form.Not a = refl
mentions_formed form.Len a = refl
mentions_formed form.Number a = refl
mentions_formed form.TextOf a = refl

mentions_aggregated : (a : Aggregate) → mentions (aggregated a) ≡ []
mentions_aggregated aggregate.Sum = refl
mentions_aggregated aggregate.Count = refl
mentions_aggregated aggregate.Min = refl
mentions_aggregated aggregate.Max = refl

few_mentions : (e : Tree) → length (mentions e) ≤ nodes e
few_mentions (number z) = omega arith
few_mentions (words text) = omega arith
few_mentions (given k) = omega arith
few_mentions (negated a) = omega (arith, few_mentions a)
few_mentions (denied a) = omega (arith, few_mentions a)
few_mentions (pair op a b) = omega (arith, few_mentions a, few_mentions b, length-append (mentions a) (mentions b))
few_mentions (choice c a b) = omega (arith, few_mentions c, few_mentions a, few_mentions b, length-append (mentions c ++ mentions a) (mentions b), length-append (mentions c) (mentions a))
few_mentions (len_of a) = omega (arith, few_mentions a)
few_mentions (number_of a) = omega (arith, few_mentions a)
few_mentions (text_of a) = omega (arith, few_mentions a)
few_mentions sum_of_members = omega arith
few_mentions count_of_members = omega arith
few_mentions least_member = omega arith
few_mentions greatest_member = omega arith

-- one more than the greatest number
abbrev pub top : List ℕ → ℕ
top [] = 0
top (k ∷ ks) = max (k + 1) (top ks)

top_append : (xs ys : List ℕ) → top (xs ++ ys) ≡ max (top xs) (top ys)
top_append [] ys = omega arith
top_append (x ∷ xs) ys = let h = top_append xs ys in omega arith

pub name_count_is : (e : Tree) → name_count e ≡ top (mentions e)
name_count_is (number z) = refl
name_count_is (words text) = refl
name_count_is (given k) = omega arith
name_count_is (negated a) = name_count_is a
name_count_is (denied a) = name_count_is a
name_count_is (pair op a b) = omega (arith, name_count_is a, name_count_is b, top_append (mentions a) (mentions b))
name_count_is (choice c a b) = omega (arith, name_count_is c, name_count_is a, name_count_is b, top_append (mentions c ++ mentions a) (mentions b), top_append (mentions c) (mentions a))
name_count_is (len_of a) = name_count_is a
name_count_is (number_of a) = name_count_is a
name_count_is (text_of a) = name_count_is a
name_count_is sum_of_members = refl
name_count_is count_of_members = refl
name_count_is least_member = refl
name_count_is greatest_member = refl

top_places : (names xs : Names) → top (map (name_index names) xs) ≤ length names + 1
top_places names [] = omega arith
top_places names (x ∷ xs) = omega (arith, place_within names x, top_places names xs)

-- an operator is no name
operator_is : (t : Token) (op : Op) (ts : List Token) → operator t ≡ Some op → names_among (t ∷ ts) ≡ names_among ts
operator_is (Name name) op ts h = absurd (cc)
operator_is t op ts h = refl

pub level_operator : (L : Level) (o : Option Op) (op : Op) → at_level L o ≡ Some op → (op' : Op) × (o ≡ Some op')
level_operator L None op h = absurd (cc)
level_operator L (Some op') op h = (op', refl)

join_is : (L : Level) (t : Token) (op : Op) (ts : List Token) → joins L t ≡ Some op → names_among (t ∷ ts) ≡ names_among ts
join_is L t op ts h = let o = level_operator L (operator t) op h in operator_is t o.0 ts o.1

module _ (names : Names) where
  abbrev pub places : List Token → List ℕ
  places ts = map (name_index names) (names_among ts)

  two : (xs ys us vs rest : List ℕ) → xs ++ us ≡ vs → ys ++ rest ≡ us → (xs ++ ys) ++ rest ≡ vs
  two xs ys us vs rest f g = append_assoc xs ys rest ∙ ap (λ (l : List ℕ). xs ++ l) g ∙ f

  -- a tree mentions the names of its tokens, in their order
  spelled_mentions : {L : Level} {d : ℕ} {ts : List Token} {e : Tree} {rest : List Token} → Spells names L d ts e rest → mentions e ++ places rest ≡ places ts
  spelled_mentions (whole_number h) = refl
  spelled_mentions (negative_number h) = refl
  spelled_mentions (quoted_text h) = refl
  spelled_mentions named = refl
  spelled_mentions (in_brackets s) = spelled_mentions s
  spelled_mentions (call {rest = rest} {e = e} {form = f} h s) = ap (λ (l : List ℕ). l ++ places rest) (mentions_formed f e) ∙ spelled_mentions s
  spelled_mentions (member_call {rest = rest} {a = a} h) = ap (λ (l : List ℕ). l ++ places rest) (mentions_aggregated a)
  spelled_mentions (negation s) = spelled_mentions s
  spelled_mentions (joined {L = L} {ts = ts} {us = us} {rest = rest} {t = t} {op = op} {a = a} {b = b} l h s u) =
      two (mentions a) (mentions b) (places us) (places ts) (places rest)
      (ap (λ (l : Names). mentions a ++ map (name_index names) l) (sym (join_is L t op us h)) ∙ spelled_mentions s) (spelled_mentions u)
  spelled_mentions (comparison {ts = ts} {us = us} {rest = rest} {t = t} {op = op} {a = a} {b = b} h s u) =
      two (mentions a) (mentions b) (places us) (places ts) (places rest)
      (ap (λ (l : Names). mentions a ++ map (name_index names) l) (sym (join_is Comparison t op us h)) ∙ spelled_mentions s) (spelled_mentions u)
  spelled_mentions (denial s) = spelled_mentions s
  spelled_mentions (if_then_else {ts = ts} {us = us} {vs = vs} {rest = rest} {c = c} {a = a} {b = b} s u v) =
      two (mentions c ++ mentions a) (mentions b) (places vs) (places ts) (places rest)
      (two (mentions c) (mentions a) (places us) (places ts) (places vs) (spelled_mentions s) (spelled_mentions u)) (spelled_mentions v)
  spelled_mentions (as_tighter s) = spelled_mentions s

  -- the names of a whole text are no more than the nodes of its tree
  pub whole_mentions : {L : Level} {d : ℕ} {ts : List Token} {e : Tree} → Spells names L d ts e [] → mentions e ≡ places ts
  whole_mentions {e = e} s = sym (append-nil (mentions e)) ∙ spelled_mentions s

  pub few_names : {L : Level} {d : ℕ} {ts : List Token} {e : Tree} → names ≡ with_names [] (names_among ts) → Spells names L d ts e [] → length names ≤ nodes e
  few_names {ts = ts} {e = e} n s =
      let k = ap (λ (l : List ℕ). length l) (whole_mentions s) in
      let l = ap (λ (l : Names). length l) n in
      omega (arith, few_mentions e, with_fewer [] (names_among ts), length-map (names_among ts) (name_index names))

  pub low_names : {L : Level} {d : ℕ} {ts : List Token} {e : Tree} → Spells names L d ts e [] → name_count e ≤ length names + 1
  low_names {ts = ts} {e = e} s =
      let k = ap (λ (l : List ℕ). top l) (whole_mentions s) in
      omega (arith, name_count_is e, top_places names (names_among ts))

-- names that stand once each: each is found at its place
abbrev pub AreDistinct : Names → Type 0
AreDistinct names = (k : ℕ) → k < length names → name_index names (name_at names k) ≡ k

pub place_append : (names more : Names) (name : List ℕ) → name_index names name < length names → name_index (names ++ more) name ≡ name_index names name
place_append [] more name h = absurd (omega arith)
place_append (other ∷ names) more name h =
    elim (not (bytes_eq other name)) as (λ b. cond b (1 + name_index names name) 0 < length (other ∷ names) → cond b (1 + name_index (names ++ more) name) 0 ≡ cond b (1 + name_index names name) 0) [
      | true ↦ λ g. let k = place_append names more name (omega arith) in omega arith
      | false ↦ λ g. refl
    ] h

pub same_bytes : (name : List ℕ) → bytes_eq name name ≡ true
same_bytes [] = refl
same_bytes (b ∷ name) = and_from (b == b) (bytes_eq name name) (eq-eqb b b refl) (same_bytes name)

pub place_new : (names : Names) (name : List ℕ) → length names ≤ name_index names name → name_index (names ++ name ∷ []) name ≡ length names
place_new [] name h = ap (λ (b : Bool). cond (not b) 1 0) (same_bytes name)
place_new (other ∷ names) name h =
    elim (not (bytes_eq other name)) as (λ b. length (other ∷ names) ≤ cond b (1 + name_index names name) 0 → cond b (1 + name_index (names ++ name ∷ []) name) 0 ≡ length (other ∷ names)) [
      | true ↦ λ g. let k = place_new names name (omega arith) in omega arith
      | false ↦ λ g. absurd (omega arith)
    ] h

apart_more : (names : Names) (name : List ℕ) → AreDistinct names → length names ≤ name_index names name → AreDistinct (names ++ name ∷ [])
apart_more names name h g k l =
    let all = names ++ name ∷ [] in
    elim (cases_lt k (length names)) [
      | inl before ↦
          let at = h k before in
          ap (name_index all) (get_or-append names (name ∷ []) [] k before) ∙ place_append names (name ∷ []) (name_at names k) (omega arith) ∙ at
      | inr behind ↦
          let last : k ≡ length names = omega (arith, length-append names (name ∷ [])) in
          ap (λ (n : ℕ). name_index all (name_at all n)) last ∙ ap (name_index all) (get_or-append_seam names name [] []) ∙ place_new names name g ∙ sym last
    ]

pub apart : (names more : Names) → AreDistinct names → AreDistinct (with_names names more)
apart names [] h = h
apart names (name ∷ more) h =
    elim (cases_lt (name_index names name) (length names)) [
      | inl l ↦ subst AreDistinct (ap (λ (b : Bool). with_names (if b then names else names ++ name ∷ []) more) (sym (lt-ltb (name_index names name) (length names) l))) (apart names more h)
      | inr g ↦ subst AreDistinct (ap (λ (b : Bool). with_names (if b then names else names ++ name ∷ []) more) (sym (le-ltb (name_index names name) (length names) g))) (apart (names ++ name ∷ []) more (apart_more names name h g))
    ]
