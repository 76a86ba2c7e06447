-- A run has at most one verdict, and the one that is computed is it.
use Rattle.std.proofs.Common.{◌≡◌, ℕ, zero, suc, ◌<◌, ◌≤◌, Bool, true, false, ltb, List, [], ◌∷◌, Option, Some, None, is_some, ◌⊎◌, inl, inr, refl, sym, ap, ◌∙◌, subst, arith, lt-ltb, ltb-true}
use Rattle.std.specs.Prelude.{Decides, is_none}
use Rattle.std.proofs.lemmas.Bool.{cases_Bool, cond-true, cond-false}
use Rattle.propagation.specs.Lists.{Has}
use Rattle.propagation.specs.Deciding.{IsSame}
use Rattle.judged_run.specs.Texts.{RunPlan, IsRunPlan, Line, position_after, Begins}
use Rattle.judged_run.specs.LineRules.{Rule, rule_number, LineKeeps, KeepsAt, IsLegalRun, FirstBroken}
use Rattle.judged_run.specs.LineRules.Rule.{J1, J2, J3, J4, J5, J6, J7, J8, J9}
use Rattle.judged_run.specs.Verdicts.{line_keeps, all_rules, first_not, or_later, verdict_from, verdict}
use Rattle.judged_run.specs.Laws.{VerdictsAreExact}
use Rattle.judged_run.proofs.Fitting.{some-same}
use Rattle.judged_run.proofs.Tested.{Decides-begins, Decides-line, Decides-end}

-- ---- at most one

of_number : ℕ → Rule
of_number zero = J1
of_number (suc zero) = J1
of_number (suc (suc zero)) = J2
of_number (suc (suc (suc zero))) = J3
of_number (suc (suc (suc (suc zero)))) = J4
of_number (suc (suc (suc (suc (suc zero))))) = J5
of_number (suc (suc (suc (suc (suc (suc zero)))))) = J6
of_number (suc (suc (suc (suc (suc (suc (suc zero))))))) = J7
of_number (suc (suc (suc (suc (suc (suc (suc (suc zero)))))))) = J8
of_number (suc (suc (suc (suc (suc (suc (suc (suc (suc n))))))))) = J9

of-number : (rule : Rule) → of_number (rule_number rule) ≡ rule
unfolding of_number
of-number J1 = refl
of-number J2 = refl
of-number J3 = refl
of-number J4 = refl
of-number J5 = refl
of-number J6 = refl
of-number J7 = refl
of-number J8 = refl
of-number J9 = refl

same-number : (r t : Rule) → rule_number r ≡ rule_number t → r ≡ t
same-number r t e = sym (of-number r) ∙ ap (λ n. of_number n) e ∙ of-number t

-- of two numbers one is less or they are equal
compared : (a b : ℕ) → (a < b) ⊎ ((b < a) ⊎ (a ≡ b))
compared a b =
    elim (cases_Bool (ltb a b)) [
      | inl t ↦ inl (ltb-true a b t)
      | inr f ↦ elim (cases_Bool (ltb b a)) [
        | inl t ↦ inr (inl (ltb-true b a t))
        | inr u ↦ inr (inr (let x : a < b → ⊥ = λ lt. cc (f, lt-ltb a b lt) in let y : b < a → ⊥ = λ lt. cc (u, lt-ltb b a lt) in omega arith))
      ]
    ]

module _ {V D : Type 0} (plan : RunPlan V D) (lines : List (Line V)) where
  pub one-verdict : (k j : ℕ) (rule r : Rule) → FirstBroken plan lines k rule → FirstBroken plan lines j r → (j ≡ k) × (r ≡ rule)
  one-verdict k j rule r a b =
      elim (compared j k) [
        | inl lt ↦ absurd (b.breaks (a.first j r lt))
        | inr (inl lt) ↦ absurd (a.breaks (b.first k rule lt))
        | inr (inr e) ↦ (
          e,
          elim (compared (rule_number r) (rule_number rule)) [
            | inl lt ↦ absurd (b.breaks (subst (λ i. KeepsAt plan [] lines i r) (sym e) (a.least r lt)))
            | inr (inl lt) ↦ absurd (a.breaks (subst (λ i. KeepsAt plan [] lines i rule) e (b.least rule lt)))
            | inr (inr same) ↦ same-number r rule same
          ],
        )
      ]

pub never-both : {V D : Type 0} (plan : RunPlan V D) (lines : List (Line V)) (k : ℕ) (rule : Rule) → FirstBroken plan lines k rule → IsLegalRun plan lines → ⊥
never-both plan lines k rule broken all = broken.breaks (all k rule)

-- ---- the least rule

-- these rules have the numbers from this one on
abbrev From : ℕ → List Rule → Type 0
From k [] = Unit {0}
From k (rule ∷ rules) = (rule_number rule ≡ k) × From (suc k) rules

from-least : (k : ℕ) (rules : List Rule) → From k rules → (rule : Rule) → Has rules rule → k ≤ rule_number rule
from-least k [] from rule h = absurd h
from-least k (r ∷ rules) from rule h =
    elim h [
      | inl e ↦ (let same : rule_number rule ≡ k = ap (λ t. rule_number t) (sym e) ∙ from.0 in omega arith)
      | inr more ↦ (let le : suc k ≤ rule_number rule = from-least (suc k) rules from.1 rule more in omega arith)
    ]

pub first-none : (f : Rule → Bool) (rules : List Rule) → first_not f rules ≡ None → (rule : Rule) → Has rules rule → f rule ≡ true
first-none f [] e rule h = absurd h
first-none f (r ∷ rules) e rule h =
    elim (cases_Bool (f r)) [
      | inl t ↦ elim h [ inl same ↦ subst (λ x. f x ≡ true) same t | inr more ↦ first-none f rules (sym (cond-true (f r) (first_not f rules) (Some r) t) ∙ e) rule more ]
      | inr n ↦ absurd (cc (sym (cond-false (f r) (first_not f rules) (Some r) n) ∙ e))
    ]

first-some : (f : Rule → Bool) (k : ℕ) (rules : List Rule) → From k rules → (rule : Rule) → first_not f rules ≡ Some rule → (f rule ≡ false) × ((t : Rule) → Has rules t → rule_number t < rule_number rule → f t ≡ true)
first-some f k [] from rule e = absurd (cc e)
first-some f k (r ∷ rules) from rule e =
    elim (cases_Bool (f r)) [
      | inl yes_r ↦ (let (fails, least) = first-some f (suc k) rules from.1 rule (sym (cond-true (f r) (first_not f rules) (Some r) yes_r) ∙ e) in
          (fails, λ t h lt. elim h [ inl same ↦ subst (λ x. f x ≡ true) same yes_r | inr more ↦ least t more lt ]))
      | inr fails ↦ (let same : r ≡ rule = some-same r rule (sym (cond-false (f r) (first_not f rules) (Some r) fails) ∙ e) in (
        subst (λ x. f x ≡ false) same fails,
        λ t h lt. let le : k ≤ rule_number t = from-least k (r ∷ rules) from t h in let is : rule_number rule ≡ k = ap (λ x. rule_number x) (sym same) ∙ from.0 in absurd (omega arith),
      ))
    ]

from-rules : From 1 all_rules
from-rules = (refl, (refl, (refl, (refl, (refl, (refl, (refl, (refl, (refl, tt)))))))))

pub has-rule : (rule : Rule) → Has all_rules rule
has-rule J1 = inl refl
has-rule J2 = inr (inl refl)
has-rule J3 = inr (inr (inl refl))
has-rule J4 = inr (inr (inr (inl refl)))
has-rule J5 = inr (inr (inr (inr (inl refl))))
has-rule J6 = inr (inr (inr (inr (inr (inl refl)))))
has-rule J7 = inr (inr (inr (inr (inr (inr (inl refl))))))
has-rule J8 = inr (inr (inr (inr (inr (inr (inr (inl refl)))))))
has-rule J9 = inr (inr (inr (inr (inr (inr (inr (inr (inl refl))))))))

-- ---- the computed verdict

pub or-none : (o : Option Rule) (v : Option (ℕ × Rule)) → or_later o v ≡ None → (o ≡ None) × (v ≡ None)
or-none None None e = (refl, refl)
or-none None (Some x) e = absurd (cc e)
or-none (Some r) v e = absurd (cc e)

module _ {V D : Type 0} (same : V → V → Bool) (right : IsSame same) (plan : RunPlan V D) (good : IsRunPlan plan) where
  none-all : (past rest : List (Line V)) → verdict_from same plan past rest ≡ None → (k : ℕ) (rule : Rule) → KeepsAt plan past rest k rule
  none-all past [] e zero rule =
      (Decides-end same right plan good past rule).0 (first-none (line_keeps same plan past []) all_rules (or-none (first_not (line_keeps same plan past []) all_rules) None e).0 rule (has-rule rule))
  none-all past [] e (suc k) rule = tt
  none-all past (x ∷ ahead) e zero rule =
      let all = first-none (line_keeps same plan past (x ∷ ahead)) all_rules (or-none (first_not (line_keeps same plan past (x ∷ ahead)) all_rules) (verdict_from same plan (x ∷ past) ahead) e).0 in
      let begins : Begins plan (x ∷ past) = (Decides-begins same right plan good (x ∷ past)).0 (all J1 (has-rule J1)) in
      (Decides-line same right plan good past x ahead begins rule).0 (all rule (has-rule rule))
  none-all past (x ∷ ahead) e (suc k) rule =
      none-all (x ∷ past) ahead (or-none (first_not (line_keeps same plan past (x ∷ ahead)) all_rules) (verdict_from same plan (x ∷ past) ahead) e).1 k rule

  -- from here on this is the first line that breaks a rule
  abbrev IsFirst : List (Line V) → List (Line V) → ℕ → Rule → Type 0
  IsFirst past rest k rule =
      (KeepsAt plan past rest k rule → ⊥) × ((j : ℕ) (r : Rule) → j < k → KeepsAt plan past rest j r) × ((r : Rule) → rule_number r < rule_number rule → KeepsAt plan past rest k r)

  -- at the end
  end-first : (past : List (Line V)) (rule : Rule) → first_not (line_keeps same plan past []) all_rules ≡ Some rule → IsFirst past [] 0 rule
  end-first past rule e =
      let (fails, least) = first-some (line_keeps same plan past []) 1 all_rules from-rules rule e in
      (λ h. cc (fails, (Decides-end same right plan good past rule).1 h), λ j r lt. absurd (omega arith), λ r lt. (Decides-end same right plan good past r).0 (least r (has-rule r) lt))

  -- at a line
  line-first : (past : List (Line V)) (x : Line V) (ahead : List (Line V)) (rule : Rule) → first_not (line_keeps same plan past (x ∷ ahead)) all_rules ≡ Some rule → IsFirst past (x ∷ ahead) 0 rule
  line-first past x ahead rule e =
      elim (cases_Bool (is_some (position_after plan (x ∷ past)))) [
        | inl t ↦ (let (fails, least) = first-some (line_keeps same plan past (x ∷ ahead)) 1 all_rules from-rules rule e in
            let d = Decides-line same right plan good past x ahead ((Decides-begins same right plan good (x ∷ past)).0 t) in
            (λ h. cc (fails, (d rule).1 h), λ j r lt. absurd (omega arith), λ r lt. (d r).0 (least r (has-rule r) lt)))
        | inr f ↦ (let is : J1 ≡ rule = some-same J1 rule (sym (cond-false (is_some (position_after plan (x ∷ past))) (first_not (line_keeps same plan past (x ∷ ahead)) (J2 ∷ J3 ∷ J4 ∷ J5 ∷ J6 ∷ J7 ∷ J8 ∷ J9 ∷ [])) (Some J1) f) ∙ e) in
            subst (λ r. IsFirst past (x ∷ ahead) 0 r) is
            (λ h. cc (f, (Decides-begins same right plan good (x ∷ past)).1 h), λ j r lt. absurd (omega arith), λ r lt. absurd (none-less r lt)))
      ]
    where
      none-less : (r : Rule) → rule_number r < 1 → ⊥
      none-less J1 lt = omega arith
      none-less J2 lt = omega arith
      none-less J3 lt = omega arith
      none-less J4 lt = omega arith
      none-less J5 lt = omega arith
      none-less J6 lt = omega arith
      none-less J7 lt = omega arith
      none-less J8 lt = omega arith
      none-less J9 lt = omega arith

  -- a line later
  later-first : (past : List (Line V)) (x : Line V) (ahead : List (Line V)) (k : ℕ) (rule : Rule) → first_not (line_keeps same plan past (x ∷ ahead)) all_rules ≡ None → IsFirst (x ∷ past) ahead k rule → IsFirst past (x ∷ ahead) (suc k) rule
  later-first past x ahead k rule e h =
      let all = first-none (line_keeps same plan past (x ∷ ahead)) all_rules e in
      let begins : Begins plan (x ∷ past) = (Decides-begins same right plan good (x ∷ past)).0 (all J1 (has-rule J1)) in
      (h.0, go (λ r. (Decides-line same right plan good past x ahead begins r).0 (all r (has-rule r))) h.1, h.2)
    where
      go : ((r : Rule) → LineKeeps plan past (x ∷ ahead) r) → ((j : ℕ) (r : Rule) → j < k → KeepsAt plan (x ∷ past) ahead j r) → (j : ℕ) (r : Rule) → j < suc k → KeepsAt plan past (x ∷ ahead) j r
      go here rest zero r lt = here r
      go here rest (suc j) r lt = rest j r (omega arith)

  some-first : (past rest : List (Line V)) (k : ℕ) (rule : Rule) → verdict_from same plan past rest ≡ Some (k, rule) → IsFirst past rest k rule
  some-first past [] k rule e = go (first_not (line_keeps same plan past []) all_rules) refl e
    where
      go : (o : Option Rule) → first_not (line_keeps same plan past []) all_rules ≡ o → or_later o None ≡ Some (k, rule) → IsFirst past [] k rule
      go None is v = absurd (cc v)
      go (Some r) is v = subst (λ (y : ℕ × Rule). IsFirst past [] y.0 y.1) (some-same (0, r) (k, rule) v) (end-first past r is)
  some-first past (x ∷ ahead) k rule e = go (λ j r is. some-first (x ∷ past) ahead j r is) (first_not (line_keeps same plan past (x ∷ ahead)) all_rules) refl (verdict_from same plan (x ∷ past) ahead) refl e
    where
      go : ((j : ℕ) (r : Rule) → verdict_from same plan (x ∷ past) ahead ≡ Some (j, r) → IsFirst (x ∷ past) ahead j r) →
          (o : Option Rule) → first_not (line_keeps same plan past (x ∷ ahead)) all_rules ≡ o → (v : Option (ℕ × Rule)) → verdict_from same plan (x ∷ past) ahead ≡ v → or_later o v ≡ Some (k, rule) → IsFirst past (x ∷ ahead) k rule
      go after (Some r) is v at y = subst (λ (y : ℕ × Rule). IsFirst past (x ∷ ahead) y.0 y.1) (some-same (0, r) (k, rule) y) (line-first past x ahead r is)
      go after None is None at y = absurd (cc y)
      go after None is (Some w) at y = subst (λ (y : ℕ × Rule). IsFirst past (x ∷ ahead) y.0 y.1) (some-same (suc w.0, w.1) (k, rule) y) (later-first past x ahead w.0 w.1 is (after w.0 w.1 at))

  module _ (lines : List (Line V)) where
    pub verdict-first : (k : ℕ) (rule : Rule) → verdict same plan lines ≡ Some (k, rule) → FirstBroken plan lines k rule
    verdict-first k rule e = let (a, b, c) = some-first [] lines k rule e in record { breaks = a; first = b; least = c }

    pub verdict-legal : verdict same plan lines ≡ None → IsLegalRun plan lines
    verdict-legal e k rule = none-all [] lines e k rule

    found : (v : Option (ℕ × Rule)) → verdict same plan lines ≡ v → Decides (is_none v) (IsLegalRun plan lines)
    found None is = (λ t. verdict-legal is, λ h. refl)
    found (Some w) is = (λ t. absurd (cc t), λ h. absurd ((verdict-first w.0 w.1 is).breaks (h w.0 w.1)))

    first-verdict : (k : ℕ) (rule : Rule) → FirstBroken plan lines k rule → (v : Option (ℕ × Rule)) → verdict same plan lines ≡ v → v ≡ Some (k, rule)
    first-verdict k rule b None is = absurd (b.breaks (verdict-legal is k rule))
    first-verdict k rule b (Some w) is = let (x, y) = one-verdict plan lines k w.0 rule w.1 b (verdict-first w.0 w.1 is) in λ i. Some (x i, y i)

    either-verdict : (v : Option (ℕ × Rule)) → verdict same plan lines ≡ v → IsLegalRun plan lines ⊎ ((k : ℕ) × (rule : Rule) × FirstBroken plan lines k rule)
    either-verdict None is = inl (verdict-legal is)
    either-verdict (Some w) is = inr (w.0, w.1, verdict-first w.0 w.1 is)

pub verdicts_are_exact : (V D : Type 0) → VerdictsAreExact V D
verdicts_are_exact V D same plan lines right good = (
  found same right plan good lines (verdict same plan lines) refl,
  λ k rule. (verdict-first same right plan good lines k rule, λ b. first-verdict same right plan good lines k rule b (verdict same plan lines) refl),
  either-verdict same right plan good lines (verdict same plan lines) refl,
)
