-- Rows by their keys, lists by their receivers, and readers by their epochs.
use Rattle.std.proofs.Common.{◌≡◌, ℕ, Bool, true, false, ◌&&◌, ◌==◌, List, [], ◌∷◌, ◌++◌, reverse, inl, inr, refl, sym, ap, ap₂, ◌∙◌, if◌then◌else◌}
use Rattle.std.proofs.lemmas.Bool.{cases_Bool, cond-true, cond-false, and_parts, and_from}
use Rattle.std.proofs.lemmas.Bool.Decides.{Decides-eqb}
use Rattle.std.proofs.lemmas.List.{reverse-append}
use Rattle.propagation.specs.Stamps.{Stamps, clocked, with_clocks}
use Rattle.propagation.specs.Logs.{Emission, Frame}
use Rattle.propagation.specs.Logs.Frame.{Subscribe, Unsubscribe, Sources, Changed}
use Rattle.judged_run.specs.LogStates.{told_after, last_after, came_after, all_but_first}
use Rattle.judge_state.specs.Lists.{Announced, Came, announced_at, with_announced, came_at, with_came, due_to, without_next, all_to, announced_after, came_rows_after}

-- ---- tests

pub eq-false : (a b : ℕ) → (a ≡ b → ⊥) → (a == b) ≡ false
eq-false a b ne = elim (cases_Bool (a == b)) [ inl t ↦ absurd (ne ((Decides-eqb a b).0 t)) | inr f ↦ f ]

-- the test of two keys
keys-same : (a b c d : ℕ) → ((a == c) && (b == d)) ≡ true → (a ≡ c) × (b ≡ d)
keys-same a b c d t = let (x, y) = and_parts (a == c) (b == d) t in ((Decides-eqb a c).0 x, (Decides-eqb b d).0 y)

same-keys : (a b c d : ℕ) → a ≡ c → b ≡ d → ((a == c) && (b == d)) ≡ true
same-keys a b c d x y = and_from (a == c) (b == d) ((Decides-eqb a c).1 x) ((Decides-eqb b d).1 y)

-- where two keys are one, their tests against a third are
tests-same : (a b c d p e : ℕ) → ((a == c) && (b == d)) ≡ true → ((a == p) && (b == e)) ≡ ((c == p) && (d == e))
tests-same a b c d p e t = let (x, y) = keys-same a b c d t in ap₂ (λ i j. (i == p) && (j == e)) x y

pub if-none : {A : Type 0} (b : Bool) (x y : A) → x ≡ y → x ≡ (if b then y else x)
if-none true x y e = e
if-none false x y e = refl

-- a choice by two tests
cell-if : {A : Type 0} (b c : Bool) (x z y : A) → (b ≡ true → c ≡ true → x ≡ z) → (if b && c then x else y) ≡ (if b then (if c then z else y) else y)
cell-if true true x z y h = h refl refl
cell-if true false x z y h = refl
cell-if false c x z y h = refl

-- ---- rows

-- the row at a key after one was put: the new one where the keys are one, and else as before
two_ways : {A : Type 0} (b c : Bool) (new old other : A) → c ≡ b → (if b then new else other) ≡ (if b then new else (if c then old else other))
two_ways true c new old other same = refl
two_ways false true new old other same = absurd (cc same)
two_ways false false new old other same = refl

other_ways : {A : Type 0} (b c : Bool) (new old other : A) → (b ≡ true → c ≡ true → ⊥) → (if c then old else (if b then new else other)) ≡ (if b then new else (if c then old else other))
other_ways true true new old other never = absurd (never refl refl)
other_ways true false new old other never = refl
other_ways false c new old other never = refl

announced-with : (x : Announced) (rows : List Announced) (p e : ℕ) → announced_at (with_announced x rows) p e ≡ (if (x.peer == p) && (x.epoch == e) then (x.stamps, x.last) else announced_at rows p e)
announced-with x [] p e = refl
announced-with x (h ∷ rest) p e =
    elim (cases_Bool ((h.peer == x.peer) && (h.epoch == x.epoch))) [
      | inl t ↦
          ap (λ rows. announced_at rows p e) (cond-true ((h.peer == x.peer) && (h.epoch == x.epoch)) (x ∷ rest) (h ∷ with_announced x rest) t)
          ∙ two_ways ((x.peer == p) && (x.epoch == e)) ((h.peer == p) && (h.epoch == e)) (x.stamps, x.last) (h.stamps, h.last) (announced_at rest p e) (tests-same h.peer h.epoch x.peer x.epoch p e t)
      | inr f ↦
          ap (λ rows. announced_at rows p e) (cond-false ((h.peer == x.peer) && (h.epoch == x.epoch)) (x ∷ rest) (h ∷ with_announced x rest) f)
          ∙ ap (λ r. if (h.peer == p) && (h.epoch == e) then (h.stamps, h.last) else r) (announced-with x rest p e)
          ∙ other_ways ((x.peer == p) && (x.epoch == e)) ((h.peer == p) && (h.epoch == e)) (x.stamps, x.last) (h.stamps, h.last) (announced_at rest p e) (λ a b.
          let (hs, he) = keys-same h.peer h.epoch p e b in let (xs, xe) = keys-same x.peer x.epoch p e a in cc (f, same-keys h.peer h.epoch x.peer x.epoch (hs ∙ sym xs) (he ∙ sym xe)))
    ]

-- both stamps after a frame
abbrev both_after : {V : Type 0} → Frame V → ℕ → Stamps × Stamps → Stamps × Stamps
both_after f e x = (told_after f e x.1 x.0, last_after f e x.1 x.0)

-- two stamps
abbrev two : Stamps → Stamps → Stamps × Stamps
two S R = (S, R)

if-pair : (b : Bool) (x y z w : Stamps) → (if b then two x y else two z w) ≡ two (if b then x else z) (if b then y else w)
if-pair true x y z w = refl
if-pair false x y z w = refl

announced-both : {V : Type 0} (s : ℕ) (f : Frame V) (rows : List Announced) (p e : ℕ) →
    announced_at (announced_after s f rows) p e ≡ (if s == p then both_after f e (announced_at rows p e) else announced_at rows p e)
announced-both s (Subscribe i) rows p e = if-none (s == p) _ _ refl
announced-both s (Unsubscribe i) rows p e = if-none (s == p) _ _ refl
announced-both s (Sources i ks) rows p e =
    announced-with (record { peer = s; epoch = i; stamps = clocked ks (announced_at rows s i).1; last = (announced_at rows s i).1 }) rows p e
    ∙ cell-if (s == p) (i == e) (two (clocked ks (announced_at rows s i).1) (announced_at rows s i).1) (two (clocked ks (announced_at rows p e).1) (announced_at rows p e).1) (announced_at rows p e)
    (λ a b. ap₂ (λ x y. two (clocked ks (announced_at rows x y).1) (announced_at rows x y).1) ((Decides-eqb s p).0 a) ((Decides-eqb i e).0 b))
    ∙ ap (λ x. if s == p then x else announced_at rows p e) (if-pair (i == e) (clocked ks (announced_at rows p e).1) (announced_at rows p e).1 (announced_at rows p e).0 (announced_at rows p e).1
    ∙ ap (λ y. two (if i == e then clocked ks (announced_at rows p e).1 else (announced_at rows p e).0) y) (if-one (i == e) (announced_at rows p e).1))
  where
    if-one : (b : Bool) (x : Stamps) → (if b then x else x) ≡ x
    if-one true x = refl
    if-one false x = refl
announced-both s (Changed i v pairs) rows p e =
    announced-with (record { peer = s; epoch = i; stamps = with_clocks 0 pairs (announced_at rows s i).0; last = with_clocks 0 pairs (announced_at rows s i).0 }) rows p e
    ∙ cell-if (s == p) (i == e) (two (with_clocks 0 pairs (announced_at rows s i).0) (with_clocks 0 pairs (announced_at rows s i).0)) (two (with_clocks 0 pairs (announced_at rows p e).0) (with_clocks 0 pairs (announced_at rows p e).0)) (announced_at rows p e)
    (λ a b. ap₂ (λ x y. two (with_clocks 0 pairs (announced_at rows x y).0) (with_clocks 0 pairs (announced_at rows x y).0)) ((Decides-eqb s p).0 a) ((Decides-eqb i e).0 b))
    ∙ ap (λ x. if s == p then x else announced_at rows p e) (if-pair (i == e) (with_clocks 0 pairs (announced_at rows p e).0) (with_clocks 0 pairs (announced_at rows p e).0) (announced_at rows p e).0 (announced_at rows p e).1)

if-first : (b : Bool) (x y : Stamps × Stamps) → (if b then x else y).0 ≡ (if b then x.0 else y.0)
if-first true x y = refl
if-first false x y = refl

if-second : (b : Bool) (x y : Stamps × Stamps) → (if b then x else y).1 ≡ (if b then x.1 else y.1)
if-second true x y = refl
if-second false x y = refl

pub announced-stamps : {V : Type 0} (s : ℕ) (f : Frame V) (rows : List Announced) (p e : ℕ) →
    (announced_at (announced_after s f rows) p e).0 ≡ (if s == p then told_after f e (announced_at rows p e).1 (announced_at rows p e).0 else (announced_at rows p e).0)
announced-stamps s f rows p e =
    ap (λ (x : Stamps × Stamps). x.0) (announced-both s f rows p e) ∙ if-first (s == p) (both_after f e (announced_at rows p e)) (announced_at rows p e)

pub announced-last : {V : Type 0} (s : ℕ) (f : Frame V) (rows : List Announced) (p e : ℕ) →
    (announced_at (announced_after s f rows) p e).1 ≡ (if s == p then last_after f e (announced_at rows p e).1 (announced_at rows p e).0 else (announced_at rows p e).1)
announced-last s f rows p e =
    ap (λ (x : Stamps × Stamps). x.1) (announced-both s f rows p e) ∙ if-second (s == p) (both_after f e (announced_at rows p e)) (announced_at rows p e)

module _ {V : Type 0} where
  came-with : (x : Came V) (rows : List (Came V)) (p e : ℕ) → came_at (with_came x rows) p e ≡ (if (x.sender == p) && (x.epoch == e) then x.emissions else came_at rows p e)
  came-with x [] p e = refl
  came-with x (h ∷ rest) p e =
      elim (cases_Bool ((h.sender == x.sender) && (h.epoch == x.epoch))) [
        | inl t ↦
            ap (λ rows. came_at rows p e) (cond-true ((h.sender == x.sender) && (h.epoch == x.epoch)) (x ∷ rest) (h ∷ with_came x rest) t)
            ∙ two_ways ((x.sender == p) && (x.epoch == e)) ((h.sender == p) && (h.epoch == e)) x.emissions h.emissions (came_at rest p e) (tests-same h.sender h.epoch x.sender x.epoch p e t)
        | inr f ↦
            ap (λ rows. came_at rows p e) (cond-false ((h.sender == x.sender) && (h.epoch == x.epoch)) (x ∷ rest) (h ∷ with_came x rest) f)
            ∙ ap (λ r. if (h.sender == p) && (h.epoch == e) then h.emissions else r) (came-with x rest p e)
            ∙ other_ways ((x.sender == p) && (x.epoch == e)) ((h.sender == p) && (h.epoch == e)) x.emissions h.emissions (came_at rest p e) (λ a b.
            let (hs, he) = keys-same h.sender h.epoch p e b in let (xs, xe) = keys-same x.sender x.epoch p e a in cc (f, same-keys h.sender h.epoch x.sender x.epoch (hs ∙ sym xs) (he ∙ sym xe)))
      ]

  if-reversed : (b : Bool) (x y : List (Emission V)) → reverse (if b then x else y) ≡ (if b then reverse x else reverse y)
  if-reversed true x y = refl
  if-reversed false x y = refl

  pub came-rows : (s : ℕ) (f : Frame V) (heard : List Announced) (rows : List (Came V)) (p e : ℕ) →
      reverse (came_at (came_rows_after s f heard rows) p e) ≡ (if s == p then came_after f e (announced_at heard p e).0 (reverse (came_at rows p e)) else reverse (came_at rows p e))
  came-rows s (Subscribe i) heard rows p e = if-none (s == p) _ _ refl
  came-rows s (Unsubscribe i) heard rows p e = if-none (s == p) _ _ refl
  came-rows s (Sources i ks) heard rows p e = if-none (s == p) _ _ refl
  came-rows s (Changed i v pairs) heard rows p e =
      ap (λ ms. reverse ms) (came-with (record { sender = s; epoch = i; emissions = came_at rows s i ++ told s i ∷ [] }) rows p e)
      ∙ if-reversed ((s == p) && (i == e)) (came_at rows s i ++ told s i ∷ []) (came_at rows p e)
      ∙ cell-if (s == p) (i == e) (reverse (came_at rows s i ++ told s i ∷ [])) (told p e ∷ reverse (came_at rows p e)) (reverse (came_at rows p e))
      (λ a b. reverse-append (came_at rows s i) (told s i ∷ []) ∙ ap₂ (λ x y. told x y ∷ reverse (came_at rows x y)) ((Decides-eqb s p).0 a) ((Decides-eqb i e).0 b))
    where
      told : ℕ → ℕ → Emission V
      told q d = record { value = v; stamps = with_clocks 0 pairs (announced_at heard q d).0 }

-- ---- frames by receiver

module _ {V : Type 0} where
  pub due-append : (xs ys : List (ℕ × Frame V)) (q : ℕ) → due_to (xs ++ ys) q ≡ due_to xs q ++ due_to ys q
  due-append [] ys q = refl
  due-append (x ∷ xs) ys q = go (x.0 == q) (due-append xs ys q)
    where
      go : (b : Bool) → due_to (xs ++ ys) q ≡ due_to xs q ++ due_to ys q → (if b then x.1 ∷ due_to (xs ++ ys) q else due_to (xs ++ ys) q) ≡ (if b then x.1 ∷ due_to xs q else due_to xs q) ++ due_to ys q
      go true e = ap (λ fs. x.1 ∷ fs) e
      go false e = e

  pub due-all : (s : ℕ) (fs : List (Frame V)) (q : ℕ) → due_to (all_to s fs) q ≡ (if s == q then fs else [])
  due-all s [] q = if-none (s == q) [] [] refl
  due-all s (f ∷ fs) q = go (s == q) (due-all s fs q)
    where
      go : (b : Bool) → due_to (all_to s fs) q ≡ (if b then fs else []) → (if b then f ∷ due_to (all_to s fs) q else due_to (all_to s fs) q) ≡ (if b then f ∷ fs else [])
      go true e = ap (λ gs. f ∷ gs) e
      go false e = e

  pub due-without : (r : ℕ) (due : List (ℕ × Frame V)) (q : ℕ) → due_to (without_next r due) q ≡ (if r == q then all_but_first (due_to due q) else due_to due q)
  due-without r [] q = if-none (r == q) [] [] refl
  due-without r (x ∷ rest) q =
      elim (cases_Bool (x.0 == r)) [
        | inl t ↦
            ap (λ d. due_to d q) (cond-true (x.0 == r) rest (x ∷ without_next r rest) t)
            ∙ hit (r == q) (x.0 == q) (ap (λ i. i == q) ((Decides-eqb x.0 r).0 t))
        | inr f ↦
            ap (λ d. due_to d q) (cond-false (x.0 == r) rest (x ∷ without_next r rest) f)
            ∙ miss (r == q) (x.0 == q) (λ a b. cc (f, (Decides-eqb x.0 r).1 ((Decides-eqb x.0 q).0 b ∙ sym ((Decides-eqb r q).0 a)))) (due-without r rest q)
      ]
    where
      hit : (b c : Bool) → c ≡ b → due_to rest q ≡ (if b then all_but_first (if c then x.1 ∷ due_to rest q else due_to rest q) else (if c then x.1 ∷ due_to rest q else due_to rest q))
      hit true true e = refl
      hit true false e = absurd (cc e)
      hit false true e = absurd (cc e)
      hit false false e = refl

      miss : (b c : Bool) → (b ≡ true → c ≡ true → ⊥) → due_to (without_next r rest) q ≡ (if b then all_but_first (due_to rest q) else due_to rest q) →
          (if c then x.1 ∷ due_to (without_next r rest) q else due_to (without_next r rest) q) ≡ (if b then all_but_first (if c then x.1 ∷ due_to rest q else due_to rest q) else (if c then x.1 ∷ due_to rest q else due_to rest q))
      miss true true never e = absurd (never refl refl)
      miss true false never e = e
      miss false true never e = ap (λ fs. x.1 ∷ fs) e
      miss false false never e = e
