-- What is in flight is taken. The theory says that it may be taken by what the log tells; a service that accords has the same in its slots and
-- readers, so its tests pass. And each step keeps the accord, since a frame changes only the slot or the reader of its sender.
use Rattle.std.proofs.Common.{◌≡◌, ℕ, suc, ◌≤◌, Bool, true, List, [], ◌∷◌, length, Option, Some, None, inl, inr, refl, sym, ap, ◌∙◌, subst, arith, ◌==◌, eqb-true}
use Rattle.std.proofs.lemmas.Bool.{cond-true, cond-false, cases_Bool, eqb-false}
use Rattle.propagation.specs.Lists.{Has, AreDistinct}
use Rattle.propagation.specs.History.{edge, deps}
use Rattle.propagation.specs.Stamps.{Stamps, clock_of, clocked, with_clocks}
use Rattle.propagation.specs.Logs.{Emission, Frame, Entry, Leg, frames_taken, told, carried_last, reply}
use Rattle.propagation.specs.Logs.Frame.{Subscribe, Unsubscribe, Sources, Changed}
use Rattle.propagation.specs.Logs.Entry.{Did, Took, Computed}
use Rattle.propagation.specs.Rules.{announced, has_value_since}
use Rattle.propagation.proofs.Frames.{told-sources}
use Rattle.service_machine.specs.States.{Slot, State, slot_at, with_slot, advanced, advance_with, announced_to, put, with_clock, keys_of, known_stamps}
use Rattle.service_machine.specs.Turning.{Choice, inputs}
use Rattle.service_machine.specs.Turning.Choice.{Advance, Compute, Empty, Lags, Still}
use Rattle.service_machine.specs.Steps.{after_taking, took_log, after_turning, turned_to, turn_log, turn_log_to, choice_of, after_computing, computed_log, emission, after_changing, done_log, done_with, done_log_with, redefined, rewired_log, Accepts, picks}
use Rattle.service_machine.specs.Fitting.{Fits}
use Rattle.service_machine.specs.Coupled.{Coupled}
use Rattle.service_machine.proofs.Slots.{slot_at-sender, with_slot-this, with_slot-other, advanced-sender}
use Rattle.service_machine.proofs.Sending.{Sends, sends-to, sends-reports}
use Rattle.service_machine.proofs.Sending.Sends.{none, one}
use Rattle.service_machine.proofs.Readers.{with_clock-this, with_clock-other}
use Rattle.service_machine.proofs.SlotTaking.{taken-this, taken-other}
use Rattle.service_machine.proofs.Changing.{slot-is, sends-more}

-- ---- each step keeps the accord

module _ {V D : Type 0} (g : Leg V D) (n : ℕ) where
  -- where neither keys nor carried stamps change
  pub accord-same : (a b : List (Slot V)) (past : List (ℕ × ℕ)) (log more : List (Entry V)) → ((p : ℕ) → (slot_at b p).announced ≡ (slot_at a p).announced) → ((p : ℕ) → (slot_at b p).carried ≡ (slot_at a p).carried) → ((p : ℕ) → frames_taken p more ≡ frames_taken p log) →
      Coupled g n a past log → Coupled g n b past more
  accord-same a b past log more same_keys same_clocks same_taken k = record {
    some = λ p e is. (
        let w = k.some p e (ap (λ (fs : List (Frame V)). announced (edge g.book n p (g.start n)) fs) (sym (same_taken p)) ∙ is) in
        record {
          keys = w.keys;
          are = same_keys p ∙ w.are;
          as_many = w.as_many ∙ ap (λ (fs : List (Frame V)). length (told (g.hears n p e) e fs)) (sym (same_taken p));
          clocked = λ yes. (let v = w.clocked (ap (λ (fs : List (Frame V)). has_value_since (edge g.book n p (g.start n)) fs) (sym (same_taken p)) ∙ yes) in (v.0, same_clocks p ∙ v.1));
        }
        );
    none = λ p is x found. k.none p (ap (λ (fs : List (Frame V)). announced (edge g.book n p (g.start n)) fs) (sym (same_taken p)) ∙ is) x (sym (same_keys p) ∙ found);
    reached = λ q. elim (k.reached q) [ inl le ↦ inl le | inr h ↦ inr (subst (λ (fs : List (Frame V)). Has fs (Subscribe (clock_of past q))) (sym (same_taken q)) h) ];
  }

  pub taken-more : (p : ℕ) (log more : List (Entry V)) → Sends log more → frames_taken p more ≡ frames_taken p log
  taken-more p log more none = refl
  taken-more p log more (one h) = taken-more p log _ h

  advance-keys : (s : Slot V) (queue : List (ℕ × Emission V)) → (advance_with s queue).announced ≡ s.announced
  advance-keys s [] = refl
  advance-keys s (x ∷ rest) = refl

  advance-clocks : (s : Slot V) (queue : List (ℕ × Emission V)) → (advance_with s queue).carried ≡ s.carried
  advance-clocks s [] = refl
  advance-clocks s (x ∷ rest) = refl

  -- what a slot and the others share stays as that slot is replaced
  pub slot-same : {A : Type 0} (f : Slot V → A) (slots : List (Slot V)) (p : ℕ) (new : Slot V) → new.sender ≡ p → f new ≡ f (slot_at slots p) → (q : ℕ) → f (slot_at (with_slot new slots) q) ≡ f (slot_at slots q)
  slot-same f slots p new is same q =
      elim (cases_Bool (p == q)) [
        | inl t ↦ (let e : p ≡ q = eqb-true p q t in ap f (with_slot-this new slots q (is ∙ e)) ∙ same ∙ ap (λ j. f (slot_at slots j)) e)
        | inr t ↦ ap f (with_slot-other new slots q (λ e. eqb-false p q t (sym is ∙ e)))
      ]

  length-written : (place : ℕ) (pairs : List (ℕ × ℕ)) (S : Stamps) → length (with_clocks place pairs S) ≡ length S
  length-written place pairs [] = refl
  length-written place pairs (x ∷ rest) = ap suc (length-written (suc place) pairs rest)

  length-clocked : (ks : List ℕ) (S : Stamps) → length (clocked ks S) ≡ length ks
  length-clocked [] S = refl
  length-clocked (q ∷ qs) S = ap suc (length-clocked qs S)

  length-told : (first : Stamps) (i e : ℕ) (v : V) (pairs : List (ℕ × ℕ)) (fs : List (Frame V)) → length (told first i (Changed e v pairs ∷ fs)) ≡ length (told first i fs)
  length-told first i e v pairs fs =
      elim (cases_Bool (e == i)) [
        | inl t ↦ ap (λ (S : Stamps). length S) (cond-true (e == i) (with_clocks 0 pairs (told first i fs)) (told first i fs) t) ∙ length-written 0 pairs (told first i fs)
        | inr t ↦ ap (λ (S : Stamps). length S) (cond-false (e == i) (with_clocks 0 pairs (told first i fs)) (told first i fs) t)
      ]

  -- a frame of p and the slot after it
  accord-at : (slots : List (Slot V)) (past : List (ℕ × ℕ)) (log : List (Entry V)) (p : ℕ) (f : Frame V) (new : Slot V) → new.sender ≡ p →
      ((e : ℕ) → announced (edge g.book n p (g.start n)) (f ∷ frames_taken p log) ≡ Some e →
      (ks : List ℕ) × (new.announced ≡ Some (e, ks)) × (length ks ≡ length (told (g.hears n p e) e (f ∷ frames_taken p log))) × (has_value_since (edge g.book n p (g.start n)) (f ∷ frames_taken p log) ≡ true → (S : Stamps) × (new.carried ≡ Some S))) →
      (announced (edge g.book n p (g.start n)) (f ∷ frames_taken p log) ≡ None → (a : ℕ × List ℕ) → new.announced ≡ Some a → a.0 ≤ g.start n) →
      Coupled g n slots past log → Coupled g n (with_slot new slots) past (Took p f ∷ log)
  accord-at slots past log p f new is here nothing k = record {
    some = λ q e found. elim (cases_Bool (p == q)) [
      | inl t ↦ (let same : p ≡ q = eqb-true p q t in
          let w = here e (subst (λ j. announced (edge g.book n j (g.start n)) (f ∷ frames_taken j log) ≡ Some e) (sym same)
          (ap (λ (fs : List (Frame V)). announced (edge g.book n q (g.start n)) fs) (sym (taken-this p f log q same)) ∙ found)) in
          let slot_is : slot_at (with_slot new slots) q ≡ new = with_slot-this new slots q (is ∙ same) in
          record {
            keys = w.0;
            are = ap (λ (x : Slot V). x.announced) slot_is ∙ w.1;
            as_many = w.2 ∙ ap (λ j. length (told (g.hears n j e) e (f ∷ frames_taken j log))) same ∙ ap (λ (fs : List (Frame V)). length (told (g.hears n q e) e fs)) (sym (taken-this p f log q same));
            clocked = λ yes. (
                let v = w.3 (subst (λ j. has_value_since (edge g.book n j (g.start n)) (f ∷ frames_taken j log) ≡ true) (sym same) (ap (λ (fs : List (Frame V)). has_value_since (edge g.book n q (g.start n)) fs) (sym (taken-this p f log q same)) ∙ yes)) in
                (v.0, ap (λ (x : Slot V). x.carried) slot_is ∙ v.1)
                );
          })
      | inr t ↦ (let ne : p ≡ q → ⊥ = eqb-false p q t in
          let w = k.some q e (ap (λ (fs : List (Frame V)). announced (edge g.book n q (g.start n)) fs) (sym (taken-other p f log q ne)) ∙ found) in
          let slot_is : slot_at (with_slot new slots) q ≡ slot_at slots q = with_slot-other new slots q (λ x. ne (sym is ∙ x)) in
          record {
            keys = w.keys;
            are = ap (λ (x : Slot V). x.announced) slot_is ∙ w.are;
            as_many = w.as_many ∙ ap (λ (fs : List (Frame V)). length (told (g.hears n q e) e fs)) (sym (taken-other p f log q ne));
            clocked = λ yes. (let v = w.clocked (ap (λ (fs : List (Frame V)). has_value_since (edge g.book n q (g.start n)) fs) (sym (taken-other p f log q ne)) ∙ yes) in (v.0, ap (λ (x : Slot V). x.carried) slot_is ∙ v.1));
          })
    ];
    none = λ q gone a found. elim (cases_Bool (p == q)) [
      | inl t ↦ (let same : p ≡ q = eqb-true p q t in
          nothing (subst (λ j. announced (edge g.book n j (g.start n)) (f ∷ frames_taken j log) ≡ None) (sym same) (ap (λ (fs : List (Frame V)). announced (edge g.book n q (g.start n)) fs) (sym (taken-this p f log q same)) ∙ gone)) a
          (sym (ap (λ (x : Slot V). x.announced) (with_slot-this new slots q (is ∙ same))) ∙ found))
      | inr t ↦ (let ne : p ≡ q → ⊥ = eqb-false p q t in
          k.none q (ap (λ (fs : List (Frame V)). announced (edge g.book n q (g.start n)) fs) (sym (taken-other p f log q ne)) ∙ gone) a
          (sym (ap (λ (x : Slot V). x.announced) (with_slot-other new slots q (λ x. ne (sym is ∙ x)))) ∙ found))
    ];
    reached = λ q. elim (k.reached q) [
      | inl le ↦ inl le
      | inr h ↦ inr (elim (cases_Bool (p == q)) [
        | inl t ↦ subst (λ (fs : List (Frame V)). Has fs (Subscribe (clock_of past q))) (sym (taken-this p f log q (eqb-true p q t))) (inr h)
        | inr t ↦ subst (λ (fs : List (Frame V)). Has fs (Subscribe (clock_of past q))) (sym (taken-other p f log q (eqb-false p q t))) h
      ])
    ];
  }

  -- one subscribes
  accord-subscribed : (slots : List (Slot V)) (past : List (ℕ × ℕ)) (log : List (Entry V)) (p e : ℕ) → Coupled g n slots past log → Coupled g n slots (with_clock p e past) (Took p (Subscribe e) ∷ log)
  accord-subscribed slots past log p e k = record {
    some = λ q i found. (
        let w = k.some q i (sym (same_announced q) ∙ found) in
        record {
          keys = w.keys;
          are = w.are;
          as_many = w.as_many ∙ sym (ap (λ (S : Stamps). length S) (same_told q i));
          clocked = λ yes. w.clocked (sym (same_carried q) ∙ yes);
        }
        );
    none = λ q gone a found. k.none q (sym (same_announced q) ∙ gone) a found;
    reached = λ q. elim (cases_Bool (p == q)) [
      | inl t ↦ (let same : p ≡ q = eqb-true p q t in
          let last : clock_of (with_clock p e past) q ≡ e = subst (λ j. clock_of (with_clock p e past) j ≡ e) same (with_clock-this p e past) in
          inr (subst (λ c. Has (frames_taken q (Took p (Subscribe e) ∷ log)) (Subscribe c)) (sym last) (subst (λ (fs : List (Frame V)). Has fs (Subscribe e)) (sym (taken-this p (Subscribe e) log q same)) (inl refl))))
      | inr t ↦ (let ne : p ≡ q → ⊥ = eqb-false p q t in
          let last : clock_of (with_clock p e past) q ≡ clock_of past q = with_clock-other p e past q ne in
          elim (k.reached q) [
            | inl le ↦ inl (let l : clock_of past q ≤ g.start q = le in omega arith)
            | inr h ↦ inr (subst (λ c. Has (frames_taken q (Took p (Subscribe e) ∷ log)) (Subscribe c)) (sym last) (subst (λ (fs : List (Frame V)). Has fs (Subscribe (clock_of past q))) (sym (taken-other p (Subscribe e) log q ne)) h))
          ])
    ];
  }
    where
      same_announced : (q : ℕ) → announced (edge g.book n q (g.start n)) (frames_taken q (Took p (Subscribe e) ∷ log)) ≡ announced (edge g.book n q (g.start n)) (frames_taken q log)
      same_announced q =
          elim (cases_Bool (p == q)) [
            | inl t ↦ ap (λ (fs : List (Frame V)). announced (edge g.book n q (g.start n)) fs) (taken-this p (Subscribe e) log q (eqb-true p q t))
            | inr t ↦ ap (λ (fs : List (Frame V)). announced (edge g.book n q (g.start n)) fs) (taken-other p (Subscribe e) log q (eqb-false p q t))
          ]

      same_carried : (q : ℕ) → has_value_since (edge g.book n q (g.start n)) (frames_taken q (Took p (Subscribe e) ∷ log)) ≡ has_value_since (edge g.book n q (g.start n)) (frames_taken q log)
      same_carried q =
          elim (cases_Bool (p == q)) [
            | inl t ↦ ap (λ (fs : List (Frame V)). has_value_since (edge g.book n q (g.start n)) fs) (taken-this p (Subscribe e) log q (eqb-true p q t))
            | inr t ↦ ap (λ (fs : List (Frame V)). has_value_since (edge g.book n q (g.start n)) fs) (taken-other p (Subscribe e) log q (eqb-false p q t))
          ]

      same_told : (q i : ℕ) → told (g.hears n q i) i (frames_taken q (Took p (Subscribe e) ∷ log)) ≡ told (g.hears n q i) i (frames_taken q log)
      same_told q i =
          elim (cases_Bool (p == q)) [
            | inl t ↦ ap (λ (fs : List (Frame V)). told (g.hears n q i) i fs) (taken-this p (Subscribe e) log q (eqb-true p q t))
            | inr t ↦ ap (λ (fs : List (Frame V)). told (g.hears n q i) i fs) (taken-other p (Subscribe e) log q (eqb-false p q t))
          ]

  -- one no longer reads
  accord-unsubscribed : (slots : List (Slot V)) (past : List (ℕ × ℕ)) (log : List (Entry V)) (p e : ℕ) → Coupled g n slots past log → Coupled g n slots past (Took p (Unsubscribe e) ∷ log)
  accord-unsubscribed slots past log p e k = record {
    some = λ q i found. elim (cases_Bool (p == q)) [
      | inl t ↦ (let there : frames_taken q (Took p (Unsubscribe e) ∷ log) ≡ Unsubscribe e ∷ frames_taken q log = taken-this p (Unsubscribe e) log q (eqb-true p q t) in
          let w = k.some q i (sym (ap (λ (fs : List (Frame V)). announced (edge g.book n q (g.start n)) fs) there) ∙ found) in
          record { keys = w.keys; are = w.are; as_many = w.as_many ∙ sym (ap (λ (fs : List (Frame V)). length (told (g.hears n q i) i fs)) there); clocked = λ yes. w.clocked (sym (ap (λ (fs : List (Frame V)). has_value_since (edge g.book n q (g.start n)) fs) there) ∙ yes) })
      | inr t ↦ (let there : frames_taken q (Took p (Unsubscribe e) ∷ log) ≡ frames_taken q log = taken-other p (Unsubscribe e) log q (eqb-false p q t) in
          let w = k.some q i (sym (ap (λ (fs : List (Frame V)). announced (edge g.book n q (g.start n)) fs) there) ∙ found) in
          record { keys = w.keys; are = w.are; as_many = w.as_many ∙ sym (ap (λ (fs : List (Frame V)). length (told (g.hears n q i) i fs)) there); clocked = λ yes. w.clocked (sym (ap (λ (fs : List (Frame V)). has_value_since (edge g.book n q (g.start n)) fs) there) ∙ yes) })
    ];
    none = λ q gone a found. elim (cases_Bool (p == q)) [
      | inl t ↦ k.none q (sym (ap (λ (fs : List (Frame V)). announced (edge g.book n q (g.start n)) fs) (taken-this p (Unsubscribe e) log q (eqb-true p q t))) ∙ gone) a found
      | inr t ↦ k.none q (sym (ap (λ (fs : List (Frame V)). announced (edge g.book n q (g.start n)) fs) (taken-other p (Unsubscribe e) log q (eqb-false p q t))) ∙ gone) a found
    ];
    reached = λ q. elim (k.reached q) [
      | inl le ↦ inl le
      | inr h ↦ inr (elim (cases_Bool (p == q)) [
        | inl t ↦ subst (λ (fs : List (Frame V)). Has fs (Subscribe (clock_of past q))) (sym (taken-this p (Unsubscribe e) log q (eqb-true p q t))) (inr h)
        | inr t ↦ subst (λ (fs : List (Frame V)). Has fs (Subscribe (clock_of past q))) (sym (taken-other p (Unsubscribe e) log q (eqb-false p q t))) h
      ])
    ];
  }

  accord-took : (ranks : ℕ → Option ℕ) (has_type : ℕ → V → Bool) (s : State V D) (log : List (Entry V)) (p : ℕ) (f : Frame V) → Accepts ranks has_type p f s → Coupled g n s.slots s.past log → Coupled g n (after_taking p f s).slots (after_taking p f s).past (Took p f ∷ log)
  accord-took ranks has_type s log p (Subscribe e) ok k = accord-subscribed s.slots s.past log p e k
  accord-took ranks has_type s log p (Unsubscribe e) ok k = accord-unsubscribed s.slots s.past log p e k
  accord-took ranks has_type s log p (Sources e ks) ok k =
      accord-at s.slots s.past log p (Sources e ks) (announced_to e ks (slot_at s.slots p)) (slot_at-sender s.slots p)
      (λ i found. (
      let same : e ≡ i = cc found in (
        ks,
        ap (λ j. Some (j, ks)) same,
        subst (λ j. length ks ≡ length (told (g.hears n p j) j (Sources e ks ∷ frames_taken p log))) same
            (sym (ap (λ (S : Stamps). length S) (told-sources (g.hears n p e) e ks (frames_taken p log)) ∙ length-clocked ks (carried_last (g.hears n p e) e (frames_taken p log)))),
        λ yes. absurd (cc yes),
      )
      ))
      (λ gone a found. absurd (cc gone)) k
  accord-took ranks has_type s log p (Changed e v pairs) ok k =
      accord-at s.slots s.past log p (Changed e v pairs) (put s.own e v pairs (slot_at s.slots p)) (slot_at-sender s.slots p)
      (λ i found. (
      let w = k.some p i found in
      (w.keys, w.are, w.as_many ∙ sym (length-told (g.hears n p i) i e v pairs (frames_taken p log)), λ yes. (with_clocks 0 pairs (known_stamps (keys_of (slot_at s.slots p).announced) (slot_at s.slots p).carried), refl))
      ))
      (λ gone a found. k.none p gone a found) k

  pub accord-took_log : (ranks : ℕ → Option ℕ) (has_type : ℕ → V → Bool) (s : State V D) (log : List (Entry V)) (p : ℕ) (f : Frame V) → Accepts ranks has_type p f s → Coupled g n s.slots s.past log → Coupled g n (after_taking p f s).slots (after_taking p f s).past (took_log p f s log)
  accord-took_log ranks has_type s log p f ok k =
      accord-same (after_taking p f s).slots (after_taking p f s).slots (after_taking p f s).past (Took p f ∷ log) (took_log p f s log) (λ q. refl) (λ q. refl) (λ q. taken-more q (Took p f ∷ log) (took_log p f s log) (sends-to p (reply f s.last) (Took p f ∷ log)))
      (accord-took ranks has_type s log p f ok k)

  pub accord-turned : (meaning : D → List V → V) (s : State V D) (log : List (Entry V)) → Coupled g n s.slots s.past log → Coupled g n (after_turning meaning s).slots (after_turning meaning s).past (turn_log meaning s log)
  accord-turned meaning s log k = go (choice_of s)
    where
      by : (o : Option D) → Coupled g n (after_computing meaning s o).slots (after_computing meaning s o).past (computed_log meaning s o log)
      by None = k
      by (Some d) =
          accord-same s.slots s.slots s.past log (computed_log meaning s (Some d) log) (λ q. refl) (λ q. refl)
          (λ q. taken-more q (Computed (emission meaning s d).value (emission meaning s d).stamps (picks (inputs s)) ∷ log) (computed_log meaning s (Some d) log) (sends-reports s.readers (emission meaning s d) (Computed (emission meaning s d).value (emission meaning s d).stamps (picks (inputs s)) ∷ log))) k

      go : (c : Choice) → Coupled g n (turned_to meaning s c).slots (turned_to meaning s c).past (turn_log_to meaning s c log)
      go (Advance p) =
          accord-same s.slots (with_slot (advanced (slot_at s.slots p)) s.slots) s.past log log
          (slot-same (λ (x : Slot V). x.announced) s.slots p (advanced (slot_at s.slots p)) (advanced-sender (slot_at s.slots p) (slot_at s.slots p).queue ∙ slot_at-sender s.slots p) (advance-keys (slot_at s.slots p) (slot_at s.slots p).queue))
          (slot-same (λ (x : Slot V). x.carried) s.slots p (advanced (slot_at s.slots p)) (advanced-sender (slot_at s.slots p) (slot_at s.slots p).queue ∙ slot_at-sender s.slots p) (advance-clocks (slot_at s.slots p) (slot_at s.slots p).queue))
          (λ q. refl) k
      go Compute = by s.definition
      go (Empty p) = k
      go (Lags p key) = k
      go Still = k

pub accord-done : {V D : Type 0} (g : Leg V D) (low : Stamps) (s : State V D) (log : List (Entry V)) → Fits g low s log → ((c : ℕ) → AreDistinct (deps g.book s.id c)) → Coupled g s.id s.slots s.past log → Coupled g s.id (after_changing g.book.dependencies s).slots (after_changing g.book.dependencies s).past (done_log g.book.dependencies s log)
accord-done {V} {D} g low s log h apart k = go s.left refl
  where
    go : (ds : List D) → s.left ≡ ds → Coupled g s.id (done_with g.book.dependencies s ds).slots (done_with g.book.dependencies s ds).past (done_log_with g.book.dependencies s ds log)
    go [] left = k
    go (d ∷ rest) left =
        accord-same g s.id s.slots (redefined d (g.book.dependencies d) rest s).slots s.past log (rewired_log s.edges (suc s.own) (g.book.dependencies d) log)
        (λ q. ap (λ (x : Slot V). x.announced) (slot-is g low s log h apart d rest left q))
        (λ q. ap (λ (x : Slot V). x.carried) (slot-is g low s log h apart d rest left q))
        (λ q. taken-more g s.id q (Did (suc s.own) ∷ log) (rewired_log s.edges (suc s.own) (g.book.dependencies d) log) (sends-more g low s log h apart d rest left)) k
