-- When the keys of stamps are just what a service rests on: they are the service and the dependencies of the keys.
use Rattle.std.proofs.Common.{◌≡◌, ℕ, zero, suc, ◌+◌, ◌<◌, ◌≤◌, Bool, true, false, ◌||◌, ◌==◌, List, [], ◌∷◌, length, get_or, refl, sym, ap, ◌∙◌, subst, inl, inr, ◌⊎◌, true≢false, ◌↔◌, eq-zero-or-pos, find, is_some, nat_le, slice_get, Some, arith}
use Rattle.std.proofs.Math.Bool.{or-true}
use Rattle.std.proofs.lemmas.Bool.{cases_Bool, cases_lt, cond-false, cond-true, eq-eqb, eqb-true, leb-false, leb-true}
use Rattle.std.proofs.lemmas.List.{get_or_past}
use Rattle.propagation.proofs.Edges.{Has-is_among, is_among-Has}
use Rattle.propagation.proofs.Keys.{has-keys, rising-pos}
use Rattle.propagation.specs.History.{Reach, definition_at, deps, now}
use Rattle.propagation.specs.Stamps.{Stamps, clock_of, keys}
use Rattle.propagation.specs.Lists.{Has, is_among}
use Rattle.stamp_clock.specs.Beside.{AreStamps}
use Rattle.svc_graph.proofs.Theory.{AreBelow-deps}
use Rattle.svc_graph.specs.Book.{IsBook}
use Rattle.svc_graph.specs.History.{Row, declared_row, history_of, row_at, theory}
use Rattle.svc_value.specs.declared.value.ValueType.TheVariants.{Int}
use Rattle.central_eval.proofs.Evaluating.{AreWhole}
use Rattle.central_eval.specs.At.{AreInTime, AreReached}

-- a service is marked where it is `id`, or one of the first k services has it as a dependency at its clock
pub record AreMarked (rows : List Row) (S : ℕ → ℕ) (id k : ℕ) (marks : List Bool) : Type 0 where
  pub room : length marks ≡ 64
  pub start : get_or marks id false ≡ true
  pub sound : (q : ℕ) → get_or marks q false ≡ true → (q ≡ id) ⊎ ((r : ℕ) × (r < k) × Has (deps (theory rows) r (S r)) q)
  pub closed : (r : ℕ) → r < k → (q : ℕ) → Has (deps (theory rows) r (S r)) q → get_or marks q false ≡ true

-- before any service only `id` is marked
pub AreMarked-one : (rows : List Row) (S : ℕ → ℕ) (id : ℕ) (marks : List Bool) → length marks ≡ 64 → ((q : ℕ) → get_or marks q false ≡ (q == id)) → AreMarked rows S id 0 marks
AreMarked-one rows S id marks room one =
    record {
      room = room;
      start = one id ∙ eq-eqb id id refl;
      sound = λ q marked. inl (eqb-true q id (sym (one q) ∙ marked));
      closed = λ r small. absurd (omega arith);
    }

or_cases : (a b : Bool) → (a || b) ≡ true → (a ≡ true) ⊎ (b ≡ true)
or_cases true b h = inl refl
or_cases false b h = inr h

or_intro : (a b : Bool) → a ≡ true → (a || b) ≡ true
or_intro true b h = refl
or_intro false b h = absurd (true≢false (sym h))

-- one service more
pub AreMarked-more : (rows : List Row) (S : ℕ → ℕ) (id k : ℕ) (old new : List Bool) → length new ≡ 64 →
    ((q : ℕ) → get_or new q false ≡ (get_or old q false || is_among (deps (theory rows) k (S k)) q)) → AreMarked rows S id k old → AreMarked rows S id (k + 1) new
AreMarked-more rows S id k old new room below h = record { room = room; start = stays id h.start; sound = sound; closed = closed }
  where
    stays : (q : ℕ) → get_or old q false ≡ true → get_or new q false ≡ true
    stays q marked = below q ∙ or_intro (get_or old q false) (is_among (deps (theory rows) k (S k)) q) marked

    sound : (q : ℕ) → get_or new q false ≡ true → (q ≡ id) ⊎ ((r : ℕ) × (r < k + 1) × Has (deps (theory rows) r (S r)) q)
    sound q marked =
        elim (or_cases (get_or old q false) (is_among (deps (theory rows) k (S k)) q) (sym (below q) ∙ marked)) [
          | inl before ↦ elim (h.sound q before) [
            | inl same ↦ inl same
            | inr reader ↦ inr (reader.0, (let small : reader.0 < k = reader.1 in omega arith), reader.2)
          ]
          | inr here ↦ inr (k, omega arith, Has-is_among (deps (theory rows) k (S k)) q here)
        ]

    closed : (r : ℕ) → r < k + 1 → (q : ℕ) → Has (deps (theory rows) r (S r)) q → get_or new q false ≡ true
    closed r small q has =
        elim (cases_lt r k) [
          | inl earlier ↦ stays q (h.closed r earlier q has)
          | inr here ↦
              let same : r ≡ k = omega arith in
              let there = subst (λ n. Has (deps (theory rows) n (S n)) q) same has in
              below q ∙ ap (λ b. get_or old q false || b) (is_among-Has (deps (theory rows) k (S k)) q there) ∙ or-true (get_or old q false)
        ]

-- without a clock there are no dependencies
has-clock : (rows : List Row) (n c q : ℕ) → Has (deps (theory rows) n c) q → 0 < c
has-clock rows n zero q has = absurd has
has-clock rows n (suc c) q has = omega arith

-- a service that is not declared has no clock
pub now-past : (rows : List Row) (n : ℕ) → length rows ≤ n → now (theory rows) n ≡ 0
now-past rows n past = ap (λ row. length row.history) (get_or_past rows n (declared_row [] 0 Int) past)

pub declared-clock : (rows : List Row) (n c : ℕ) → 0 < c → c ≤ now (theory rows) n → n < length rows
declared-clock rows n c key time =
    elim (cases_lt n (length rows)) [
      | inl declared ↦ declared
      | inr past ↦ let none : now (theory rows) n ≡ 0 = now-past rows n past in absurd (omega arith)
    ]

module _ (rows : List Row) (book : IsBook rows) (id : ℕ) (declared : id < length rows) (stamps : Stamps) (marks : List Bool) (h : AreMarked rows (clock_of stamps) id (length rows) marks) where
  -- what is reached is declared
  reach-declared : {q : ℕ} → Reach (theory rows) (clock_of stamps) id q → q < length rows
  reach-declared Reach.itself = declared
  reach-declared (Reach.onward {q = r} {p = q} reach has) = (AreBelow-deps rows book r (clock_of stamps r)).declared q has

  -- where the keys are what is reached, they are marked and no others
  pub marked-key : AreReached rows id stamps → (q : ℕ) → get_or marks q false ≡ true → 0 < clock_of stamps q
  marked-key reached q marked =
      elim (h.sound q marked) [
        | inl same ↦ subst (λ n. 0 < clock_of stamps n) (sym same) (reached.no_less id Reach.itself)
        | inr reader ↦ reached.no_less q (Reach.onward (reached.no_more reader.0 (has-clock rows reader.0 (clock_of stamps reader.0) q reader.2)) reader.2)
      ]

  reach-marked : {q : ℕ} → Reach (theory rows) (clock_of stamps) id q → get_or marks q false ≡ true
  reach-marked Reach.itself = h.start
  reach-marked (Reach.onward {q = r} {p = q} reach has) = h.closed r (reach-declared reach) q has

  pub key-marked : AreReached rows id stamps → (q : ℕ) → 0 < clock_of stamps q → get_or marks q false ≡ true
  key-marked reached q key = reach-marked (reached.no_more q key)

  -- where the keys are marked and no others, they are what is reached
  module _ (time : AreInTime rows stamps) (same : (q : ℕ) → q < length rows → (get_or marks q false ≡ true) ↔ (0 < clock_of stamps q)) where
    -- up from a key by readers, which have higher ranks
    key-reach : (more q : ℕ) → 1000 < (row_at rows q).rank + more → 0 < clock_of stamps q → Reach (theory rows) (clock_of stamps) id q
    key-reach zero q high key =
        let within : q < length rows = declared-clock rows q (clock_of stamps q) key (time q) in
        absurd (omega (arith, (book.each q within).rank))
    key-reach (suc more) q high key =
        let within : q < length rows = declared-clock rows q (clock_of stamps q) key (time q) in
        elim (h.sound q ((same q within).1 key)) [
          | inl here ↦ subst (Reach (theory rows) (clock_of stamps) id) (sym here) Reach.itself
          | inr reader ↦
              let higher : (row_at rows q).rank < (row_at rows reader.0).rank = (AreBelow-deps rows book reader.0 (clock_of stamps reader.0)).falls q reader.2 in
              Reach.onward (key-reach more reader.0 (omega arith) (has-clock rows reader.0 (clock_of stamps reader.0) q reader.2)) reader.2
        ]

    pub AreReached-marked : AreReached rows id stamps
    AreReached-marked = record {
      no_more = λ q key. key-reach 1001 q (omega arith) key;
      no_less = λ q reach. (same q (reach-declared reach)).0 (reach-marked reach);
    }

-- ---- clocks within their histories

-- the first key from a number on is a key
find-key : (start : ℕ) (ks : List ℕ) → is_some (find (nat_le start) ks) ≡ true → (q : ℕ) × Has ks q × (start ≤ q)
find-key start [] there = absurd (true≢false (sym there))
find-key start (k ∷ ks) there =
    elim (cases_Bool (nat_le start k)) [
      | inl t ↦ (k, inl refl, leb-true start k t)
      | inr t ↦
          let found = find-key start ks (sym (ap is_some (cond-false (nat_le start k) (Some k) (find (nat_le start) ks) t)) ∙ there) in
          (found.0, inr found.1, found.2)
    ]

-- without one, each key is below the number
key-below : (start : ℕ) (ks : List ℕ) → is_some (find (nat_le start) ks) ≡ false → (q : ℕ) → Has ks q → q < start
key-below start [] none q has = absurd has
key-below start (k ∷ ks) none q has =
    elim (cases_Bool (nat_le start k)) [
      | inl t ↦ absurd (true≢false (sym (ap is_some (cond-true (nat_le start k) (Some k) (find (nat_le start) ks) t)) ∙ none))
      | inr t ↦ elim has [
        | inl same ↦ subst (λ n. n < start) same (leb-false start k t)
        | inr later ↦ key-below start ks (sym (ap is_some (cond-false (nat_le start k) (Some k) (find (nat_le start) ks) t)) ∙ none) q later
      ]
    ]

-- a key that is not declared has a clock past its service's
pub no-key-past : (rows : List Row) (stamps : Stamps) (start : ℕ) → length rows ≤ start → AreStamps stamps → is_some (find (nat_le start) (keys stamps)) ≡ true → AreInTime rows stamps → ⊥
no-key-past rows stamps start past are there time =
    let found = find-key start (keys stamps) there in
    let key : 0 < clock_of stamps found.0 = rising-pos 0 stamps are.rising found.0 found.1 in
    let none : now (theory rows) found.0 ≡ 0 = now-past rows found.0 (omega (arith, found.2)) in
    omega (arith, time found.0)

-- where every key is declared, and no clock of a declared service is past, none is
pub AreInTime-below : (rows : List Row) (stamps : Stamps) (start : ℕ) → is_some (find (nat_le start) (keys stamps)) ≡ false → ((q : ℕ) → q < start → clock_of stamps q ≤ now (theory rows) q) → AreInTime rows stamps
AreInTime-below rows stamps start none below q =
    elim (eq-zero-or-pos (clock_of stamps q)) [
      | inl zero_there ↦ subst (λ c. c ≤ now (theory rows) q) (sym zero_there) (omega arith)
      | inr key ↦ below q (key-below start (keys stamps) none q (has-keys stamps q key))
    ]

-- ---- definitions at clocks within their histories

-- at a clock within its history a service has a definition
defined-at : (rows : List Row) (n c : ℕ) → 0 < c → c ≤ now (theory rows) n → is_some (definition_at (theory rows) n c) ≡ true
defined-at rows n zero key time = absurd (omega arith)
defined-at rows n (suc c) key time = is_some-slice_get (history_of rows n) c (omega (arith, time))
  where
    is_some-slice_get : {A : Type 0} (xs : List A) (i : ℕ) → i < length xs → is_some (slice_get xs i) ≡ true
    is_some-slice_get [] i within = absurd (omega arith)
    is_some-slice_get (x ∷ xs) zero within = refl
    is_some-slice_get (x ∷ xs) (suc i) within = is_some-slice_get xs i (omega arith)

-- so each service that is reached has one where the keys are what is reached
pub definition-reached : (rows : List Row) (id : ℕ) (stamps : Stamps) → AreInTime rows stamps → AreReached rows id stamps → (q : ℕ) → Reach (theory rows) (clock_of stamps) id q →
    is_some (definition_at (theory rows) q (clock_of stamps q)) ≡ true
definition-reached rows id stamps time reached q reach = defined-at rows q (clock_of stamps q) (reached.no_less q reach) (time q)

pub AreWhole-reached : (rows : List Row) (id : ℕ) (stamps : Stamps) → AreInTime rows stamps → AreReached rows id stamps → AreWhole rows (clock_of stamps)
AreWhole-reached rows id stamps time reached =
    record { defined = λ n p has. definition-reached rows id stamps time reached p (Reach.onward (reached.no_more n (has-clock rows n (clock_of stamps n) p has)) has) }
