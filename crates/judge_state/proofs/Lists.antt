-- The lists after an entry say what the state after it is.
use Rattle.std.proofs.Common.{◌≡◌, ℕ, suc, max, ◌<◌, zero, Bool, true, false, not, ◌&&◌, is_some, filter, ◌==◌, List, [], ◌∷◌, ◌++◌, map, length, set, slice_index_or, reverse, inl, inr, refl, sym, ap, ◌∙◌, subst, arith, if◌then◌else◌}
use Rattle.std.proofs.lemmas.Bool.{cases_Bool, cond-true, cond-false}
use Rattle.std.proofs.lemmas.Bool.Decides.{Decides-eqb}
use Rattle.std.proofs.lemmas.List.{get_or-set_same, get_or-set_other, length-set}
use Rattle.propagation.specs.Lists.{is_among, AreDistinct}
use Rattle.propagation.specs.History.{deps}
use Rattle.propagation.specs.Stamps.{clock_of}
use Rattle.propagation.specs.Logs.{Emission, Frame, Entry, Leg, reply, tell}
use Rattle.propagation.specs.Logs.Frame.{Subscribe, Unsubscribe, Sources, Changed}
use Rattle.propagation.specs.Deciding.{each_below}
use Rattle.propagation.proofs.ByTest.{by_test}
use Rattle.propagation.specs.Logs.Entry.{Did, Took, Computed, Sent}
use Rattle.service_machine.specs.States.{epoch_in}
use Rattle.service_machine.proofs.Raising.{raise-clock, raise-rising}
use Rattle.judged_run.specs.LogStates.{after_entry, is_empty}
use Rattle.judged_run.proofs.Pointwise.{SameState, state-same}
use Rattle.judge_state.specs.Lists.{LogLists, Announced, announced_at, state_of, epochs_of, due_to, all_to, readers_after, unsubscribes, subscribes, reports, without_next, lists_after}
use Rattle.judge_state.specs.Laws.{AllBelow, AreLogLists, MayFollow, LogListsGoOn, DueIsOneList}
use Rattle.judge_state.proofs.Rows.{announced-stamps, announced-last, came-rows, due-all, due-without}
use Rattle.judge_state.proofs.Sending.{enlisted, reported, rewired-edge, rewired-keys, rewired-due}

counted : (took : List ℕ) (s p : ℕ) → s < length took → slice_index_or (set took s (suc (slice_index_or took s 0))) p 0 ≡ (if s == p then suc (slice_index_or took p 0) else slice_index_or took p 0)
counted took s p lt =
    elim (cases_Bool (s == p)) [
      | inl t ↦
          (let same : s ≡ p = (Decides-eqb s p).0 t in
          subst (λ i. slice_index_or (set took s (suc (slice_index_or took s 0))) i 0 ≡ suc (slice_index_or took i 0)) same (get_or-set_same took s (suc (slice_index_or took s 0)) 0 lt)
          ∙ sym (cond-true (s == p) (suc (slice_index_or took p 0)) (slice_index_or took p 0) t))
      | inr f ↦
          get_or-set_other took s p (suc (slice_index_or took s 0)) 0 (λ e. cc (f, (Decides-eqb s p).1 (sym e)))
          ∙ sym (cond-false (s == p) (suc (slice_index_or took p 0)) (slice_index_or took p 0) f)
    ]

max-turned : (a b : ℕ) → max a b ≡ max b a
max-turned a b = omega arith

-- ---- only declared services

below-filter : (count : ℕ) (f : ℕ × ℕ → Bool) (readers : List (ℕ × ℕ)) → AllBelow count (map (λ x. x.0) readers) → AllBelow count (map (λ x. x.0) (filter f readers))
below-filter count f [] a = λ q h. absurd h
below-filter count f (r ∷ rest) a =
    by_test (f r) (λ (xs : List (ℕ × ℕ)). AllBelow count (map (λ y. y.0) xs))
    (λ t q h. elim h [ inl e ↦ a q (inl e) | inr k ↦ below-filter count f rest (λ s j. a s (inr j)) q k ])
    (λ t. below-filter count f rest (λ s j. a s (inr j)))

below-push : (count : ℕ) (readers : List (ℕ × ℕ)) (s e : ℕ) → s < count → AllBelow count (map (λ x. x.0) readers) → AllBelow count (map (λ x. x.0) (readers ++ (s, e) ∷ []))
below-push count [] s e lt a q (inl same) = subst (λ i. i < count) same lt
below-push count [] s e lt a q (inr h) = absurd h
below-push count (r ∷ rest) s e lt a q (inl same) = a q (inl same)
below-push count (r ∷ rest) s e lt a q (inr h) = below-push count rest s e lt (λ i j. a i (inr j)) q h

none-each : (V : Type 0) (m : ℕ) → each_below (λ q. is_empty (due_to {V = V} [] q)) m ≡ true
none-each V zero = refl
none-each V (suc m) = none-each V m

below-leave : (V : Type 0) (count : ℕ) (ps : List ℕ) (edges : List (ℕ × ℕ)) → AllBelow count (map (λ x. x.0) edges) → AllBelow count (map (λ (x : ℕ × Frame V). x.0) (unsubscribes {V = V} ps edges))
below-leave V count ps [] a = λ q h. absurd h
below-leave V count ps (x ∷ rest) a =
    by_test (is_among ps x.0) (λ (xs : List (ℕ × Frame V)). AllBelow count (map (λ y. y.0) xs))
    (λ t. below-leave V count ps rest (λ r k. a r (inr k)))
    (λ f q h. elim h [ inl e ↦ a q (inl e) | inr k ↦ below-leave V count ps rest (λ r j. a r (inr j)) q k ])

below-join : (V : Type 0) (count : ℕ) (c : ℕ) (edges : List (ℕ × ℕ)) (ps : List ℕ) → AllBelow count ps → AllBelow count (map (λ (x : ℕ × Frame V). x.0) (subscribes {V = V} c edges ps))
below-join V count c edges [] a = λ q h. absurd h
below-join V count c edges (p ∷ ps) a =
    by_test (is_some (epoch_in edges p)) (λ (xs : List (ℕ × Frame V)). AllBelow count (map (λ y. y.0) xs))
    (λ t. below-join V count c edges ps (λ r k. a r (inr k)))
    (λ f q h. elim h [ inl e ↦ a q (inl e) | inr k ↦ below-join V count c edges ps (λ r j. a r (inr j)) q k ])

module _ {V : Type 0} (count : ℕ) where
  below-append : (xs ys : List (ℕ × Frame V)) → AllBelow count (map (λ x. x.0) xs) → AllBelow count (map (λ x. x.0) ys) → AllBelow count (map (λ x. x.0) (xs ++ ys))
  below-append [] ys a b q h = b q h
  below-append (x ∷ xs) ys a b q (inl e) = a q (inl e)
  below-append (x ∷ xs) ys a b q (inr h) = below-append xs ys (λ r k. a r (inr k)) b q h

  below-all : (s : ℕ) (fs : List (Frame V)) → s < count → AllBelow count (map (λ (x : ℕ × Frame V). x.0) (all_to s fs))
  below-all s [] lt q h = absurd h
  below-all s (f ∷ fs) lt q (inl e) = subst (λ i. i < count) e lt
  below-all s (f ∷ fs) lt q (inr h) = below-all s fs lt q h

  below-report : (told : List Announced) (m : Emission V) (readers : List (ℕ × ℕ)) → AllBelow count (map (λ x. x.0) readers) → AllBelow count (map (λ (x : ℕ × Frame V). x.0) (reports told m readers))
  below-report told m [] a = λ q h. absurd h
  below-report told m (r ∷ rest) a =
      below-append (all_to r.0 (reverse (tell r.1 (announced_at told r.0 r.1).0 m))) (reports told m rest) (below-all r.0 (reverse (tell r.1 (announced_at told r.0 r.1).0 m)) (a r.0 (inl refl))) (below-report told m rest (λ q k. a q (inr k)))

  below-without : (r : ℕ) (due : List (ℕ × Frame V)) → AllBelow count (map (λ x. x.0) due) → AllBelow count (map (λ (x : ℕ × Frame V). x.0) (without_next r due))
  below-without r [] a = λ q h. absurd h
  below-without r (x ∷ rest) a =
      by_test (x.0 == r) (λ (xs : List (ℕ × Frame V)). AllBelow count (map (λ y. y.0) xs))
      (λ t q h. a q (inr h))
      (λ f q h. elim h [ inl e ↦ a q (inl e) | inr k ↦ below-without r rest (λ s j. a s (inr j)) q k ])

  below-enlist : (s : ℕ) (f : Frame V) (readers : List (ℕ × ℕ)) → s < count → AllBelow count (map (λ x. x.0) readers) → AllBelow count (map (λ x. x.0) (readers_after s f readers))
  below-enlist s (Subscribe e) readers lt a = by_test (is_among (epochs_of readers s) e) (λ (xs : List (ℕ × ℕ)). AllBelow count (map (λ y. y.0) xs)) (λ t. a) (λ t. below-push count readers s e lt a)
  below-enlist s (Unsubscribe e) readers lt a = below-filter count (λ r. not ((r.0 == s) && (r.1 == e))) readers a
  below-enlist s (Sources e ks) readers lt a = a
  below-enlist s (Changed e v pairs) readers lt a = a

  -- nothing is due to any of the first services exactly where the list is empty
  first-due : (x : ℕ × Frame V) (rest : List (ℕ × Frame V)) (m : ℕ) → x.0 < m → each_below (λ q. is_empty (due_to (x ∷ rest) q)) m ≡ false
  first-due x rest zero lt = absurd (omega arith)
  first-due x rest (suc m) lt =
      elim (cases_Bool (x.0 == m)) [
        | inl t ↦ ap (λ (fs : List (Frame V)). is_empty fs && each_below (λ q. is_empty (due_to (x ∷ rest) q)) m) (cond-true (x.0 == m) (x.1 ∷ due_to rest m) (due_to rest m) t)
        | inr f ↦
            (let apart : x.0 ≡ m → ⊥ = λ e. cc (f, (Decides-eqb x.0 m).1 e) in
            ap (λ b. is_empty (due_to (x ∷ rest) m) && b) (first-due x rest m (omega arith)) ∙ false-right (is_empty (due_to (x ∷ rest) m)))
      ]
    where
      false-right : (b : Bool) → (b && false) ≡ false
      false-right true = refl
      false-right false = refl

  none-due-list : (due : List (ℕ × Frame V)) → AllBelow count (map (λ x. x.0) due) → each_below (λ q. is_empty (due_to due q)) count ≡ is_empty due
  none-due-list [] a = none-each V count
  none-due-list (x ∷ rest) a = first-due x rest count (a x.0 (inl refl))

module _ {V D : Type 0} (g : Leg V D) (n count : ℕ) (t : LogLists V) (good : AreLogLists count t) where
  same-learned : (x : Entry V) → MayFollow g n count x t → SameState (state_of (lists_after g.book n x t)) (after_entry g n x (state_of t))
  same-learned (Did c) may = record {
    clock = refl;
    edges = λ p. rewired-edge t.edges (suc t.clock) (deps g.book n (suc t.clock)) p;
    heard = λ p e. refl;
    heard_last = λ p e. refl;
    came = λ p e. refl;
    took = λ p. refl;
    readers = λ q. refl;
    told_to = λ q e. refl;
    told_last = λ q e. refl;
    top = λ q. refl;
    last = refl;
    work = refl;
    due = λ q. rewired-due (suc t.clock) t.edges (deps g.book n (suc t.clock)) q good.apart may.0;
  }
  same-learned (Took s f) may = record {
    clock = refl;
    edges = λ p. refl;
    heard = λ p e. announced-stamps s f t.heard p e;
    heard_last = λ p e. announced-last s f t.heard p e;
    came = λ p e. came-rows s f t.heard t.came p e;
    took = λ p. counted t.took s p (let c : length t.took ≡ count = good.counts in omega arith);
    readers = λ q. enlisted s f t.readers q;
    told_to = λ q e. refl;
    told_last = λ q e. refl;
    top = λ q. refl;
    last = refl;
    work = refl;
    due = λ q. due-all s (reverse (reply f t.last)) q;
  }
  same-learned (Computed v S picks) may = record {
    clock = refl;
    edges = λ p. refl;
    heard = λ p e. refl;
    heard_last = λ p e. refl;
    came = λ p e. refl;
    took = λ p. refl;
    readers = λ q. refl;
    told_to = λ q e. refl;
    told_last = λ q e. refl;
    top = λ q. raise-clock t.top 0 S q good.rising may ∙ max-turned (clock_of t.top q) (clock_of S q);
    last = refl;
    work = refl;
    due = λ q. reported t.told (record { value = v; stamps = S }) t.readers q;
  }
  same-learned (Sent r f) may = record {
    clock = refl;
    edges = λ p. refl;
    heard = λ p e. refl;
    heard_last = λ p e. refl;
    came = λ p e. refl;
    took = λ p. refl;
    readers = λ q. refl;
    told_to = λ q e. announced-stamps r f t.told q e;
    told_last = λ q e. announced-last r f t.told q e;
    top = λ q. refl;
    last = refl;
    work = refl;
    due = λ q. due-without r t.due q;
  }

  still-lists : (x : Entry V) → MayFollow g n count x t → AreLogLists count (lists_after g.book n x t)
  still-lists (Did c) may = record {
    apart = subst (λ ps. AreDistinct ps) (sym (rewired-keys t.edges (suc t.clock) (deps g.book n (suc t.clock)))) may.0;
    counts = good.counts;
    rising = good.rising;
    edges_below = subst (λ ps. AllBelow count ps) (sym (rewired-keys t.edges (suc t.clock) (deps g.book n (suc t.clock)))) may.1;
    readers_below = good.readers_below;
    due_below = below-append count (unsubscribes (deps g.book n (suc t.clock)) t.edges) (subscribes (suc t.clock) t.edges (deps g.book n (suc t.clock))) (below-leave V count (deps g.book n (suc t.clock)) t.edges good.edges_below)
        (below-join V count (suc t.clock) t.edges (deps g.book n (suc t.clock)) may.1);
  }
  still-lists (Took s f) may = record {
    apart = good.apart;
    counts = length-set t.took s (suc (slice_index_or t.took s 0)) ∙ good.counts;
    rising = good.rising;
    edges_below = good.edges_below;
    readers_below = below-enlist count s f t.readers may good.readers_below;
    due_below = below-all count s (reverse (reply f t.last)) may;
  }
  still-lists (Computed v S picks) may = record {
    apart = good.apart;
    counts = good.counts;
    rising = raise-rising t.top 0 S good.rising may;
    edges_below = good.edges_below;
    readers_below = good.readers_below;
    due_below = below-report count t.told (record { value = v; stamps = S }) t.readers good.readers_below;
  }
  still-lists (Sent r f) may = record { apart = good.apart; counts = good.counts; rising = good.rising; edges_below = good.edges_below; readers_below = good.readers_below; due_below = below-without count r t.due good.due_below }

pub log_lists_go_on : (V D : Type 0) → LogListsGoOn V D
log_lists_go_on V D g n count x t good may =
    (state-same (state_of (lists_after g.book n x t)) (after_entry g n x (state_of t)) (same-learned g n count t good x may), still-lists g n count t good x may)

pub due_is_one_list : (V : Type 0) → DueIsOneList V
due_is_one_list V count t good = none-due-list count t.due good.due_below
