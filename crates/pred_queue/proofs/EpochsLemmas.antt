-- The epochs of what waits.
use Rattle.std.proofs.Common.{◌≡◌, ℕ, ◌≤◌, List, [], ◌∷◌, ◌++◌, Bool, filter, option_to_list, Option, Some, None, refl, sym, subst, inl, inr, arith}
use Rattle.std.proofs.lemmas.Bool.{cond-true, cond-false, cases_Bool}
use Rattle.propagation.specs.Lists.{Has}
use Rattle.propagation.specs.Logs.{Emission}
use Rattle.propagation.proofs.Lists.{Has-append_cases}
use Rattle.service_machine.specs.Fitting.{Climb}
use Rattle.pred_queue.specs.Epochs.{IsQueue, IsUpTo}

module _ {V : Type 0} where
  pub climb-weaker : (a b : ℕ) (queue : List (ℕ × Emission V)) → a ≤ b → Climb b queue → Climb a queue
  climb-weaker a b [] le h = tt
  climb-weaker a b (x ∷ rest) le h = let more : b ≤ x.0 = h.0 in (omega arith, h.1)

  -- the front goes
  pub queue-rest : (last : Option ℕ) (queue rest : List (ℕ × Emission V)) (o : Option (ℕ × Emission V)) → queue ≡ option_to_list o ++ rest → IsQueue last queue → IsQueue last rest
  queue-rest last queue rest None at are = subst (λ (q : List (ℕ × Emission V)). IsQueue last q) at are
  queue-rest last queue rest (Some x) at are =
      let whole = subst (λ (q : List (ℕ × Emission V)). IsQueue last q) at are in
      record { climb = climb-weaker 0 x.0 rest (omega arith) whole.climb.1; up_to = λ y h. whole.up_to y (inr h) }

  -- some are dropped
  has-filter : (test : ℕ × Emission V → Bool) (queue : List (ℕ × Emission V)) (x : ℕ × Emission V) → Has (filter test queue) x → Has queue x
  has-filter test [] x h = h
  has-filter test (y ∷ rest) x h =
      elim (cases_Bool (test y)) [
        | inl t ↦ elim (subst (λ (q : List (ℕ × Emission V)). Has q x) (cond-true (test y) (y ∷ filter test rest) (filter test rest) t) h) [ inl e ↦ inl e | inr k ↦ inr (has-filter test rest x k) ]
        | inr t ↦ inr (has-filter test rest x (subst (λ (q : List (ℕ × Emission V)). Has q x) (cond-false (test y) (y ∷ filter test rest) (filter test rest) t) h))
      ]

  climb-filter : (test : ℕ × Emission V → Bool) (a : ℕ) (queue : List (ℕ × Emission V)) → Climb a queue → Climb a (filter test queue)
  climb-filter test a [] h = tt
  climb-filter test a (x ∷ rest) h =
      elim (cases_Bool (test x)) [
        | inl t ↦ subst (λ (q : List (ℕ × Emission V)). Climb a q) (sym (cond-true (test x) (x ∷ filter test rest) (filter test rest) t)) (h.0, climb-filter test x.0 rest h.1)
        | inr t ↦ subst (λ (q : List (ℕ × Emission V)). Climb a q) (sym (cond-false (test x) (x ∷ filter test rest) (filter test rest) t))
            (climb-filter test a rest (climb-weaker a x.0 rest h.0 h.1))
      ]

  pub queue-filter : (test : ℕ × Emission V → Bool) (last : Option ℕ) (queue cut : List (ℕ × Emission V)) → cut ≡ filter test queue → IsQueue last queue → IsQueue last cut
  queue-filter test last queue cut at are =
      subst (λ (q : List (ℕ × Emission V)). IsQueue last q) (sym at)
      record { climb = climb-filter test 0 queue are.climb; up_to = λ x h. are.up_to x (has-filter test queue x h) }

  -- one more comes under the epoch announced last
  climb-more : (a e : ℕ) (queue : List (ℕ × Emission V)) (m : Emission V) → Climb a queue → a ≤ e → ((x : ℕ × Emission V) → Has queue x → x.0 ≤ e) → Climb a (queue ++ (e, m) ∷ [])
  climb-more a e [] m h le below = (le, tt)
  climb-more a e (x ∷ rest) m h le below = (h.0, climb-more x.0 e rest m h.1 (below x (inl refl)) (λ y k. below y (inr k)))

  pub queue-more : (e : ℕ) (queue new : List (ℕ × Emission V)) (m : Emission V) → new ≡ queue ++ (e, m) ∷ [] → IsQueue (Some e) queue → IsQueue (Some e) new
  queue-more e queue new m at are =
      subst (λ (q : List (ℕ × Emission V)). IsQueue (Some e) q) (sym at)
      record {
        climb = climb-more 0 e queue m are.climb (omega arith) are.up_to;
        up_to = λ x h. elim (Has-append_cases queue ((e, m) ∷ []) x h) [
          | inl k ↦ are.up_to x k
          | inr (inl same) ↦ subst (λ (y : ℕ × Emission V). y.0 ≤ e) same (omega arith)
          | inr (inr none) ↦ absurd none
        ];
      }

  -- a greater epoch is announced
  pub queue-later : (last : Option ℕ) (e : ℕ) (queue : List (ℕ × Emission V)) → ((a : ℕ) → last ≡ Some a → a ≤ e) → IsQueue last queue → IsQueue (Some e) queue
  queue-later last e queue le are = record { climb = are.climb; up_to = λ x h. go last le (are.up_to x h) }
    where
      go : {n : ℕ} (o : Option ℕ) → ((a : ℕ) → o ≡ Some a → a ≤ e) → IsUpTo o n → n ≤ e
      go None f h = absurd h
      go {n} (Some a) f h = let le : a ≤ e = f a refl in let more : n ≤ a = h in omega arith
