-- For a loop over the lines: what the verdict is behind k lines that keep all rules, and how a line goes on.
use Rattle.std.proofs.Common.{◌≡◌, ℕ, suc, ◌+◌, List, [], ◌∷◌, Option, Some, None, refl, ap, ap₂, ◌∙◌, arith}
use Rattle.std.specs.Prelude.{Bool, option_and_then}
use Rattle.judged_run.specs.Texts.{RunPlan, Line, Position, next_position}
use Rattle.judged_run.specs.Texts.Position.{in_logs}
use Rattle.judged_run.specs.LineRules.{Rule}
use Rattle.judged_run.specs.Verdicts.{all_rules, first_not, later, or_later}
use Rattle.judged_run.specs.Machine.{BlockState, block_before, block_after, line_test, machine_verdict_from, machine_verdict}

-- the verdict, so many lines later
abbrev pub shifted : ℕ → Option (ℕ × Rule) → Option (ℕ × Rule)
shifted k None = None
shifted k (Some x) = Some (k + x.0, x.1)

shifted-later : (k : ℕ) (v : Option (ℕ × Rule)) → shifted k (later v) ≡ shifted (suc k) v
shifted-later k None = refl
shifted-later k (Some x) = ap (λ i. Some (i, x.1)) (let e : k + suc x.0 ≡ suc k + x.0 = omega arith in e)

module _ {V D : Type 0} (same : V → V → Bool) (plan : RunPlan V D) where
  -- before the first line
  pub loop-start : (lines : List (Line V)) → machine_verdict same plan lines ≡ shifted 0 (machine_verdict_from same plan (block_before plan (in_logs 0 0) lines) lines)
  loop-start lines = go (machine_verdict same plan lines)
    where
      go : (v : Option (ℕ × Rule)) → v ≡ shifted 0 v
      go None = refl
      go (Some x) = ap (λ i. Some (i, x.1)) (let e : x.0 ≡ 0 + x.0 = omega arith in e)

  -- a line that breaks a rule
  pub loop-broken : (k : ℕ) (j : BlockState V) (x : Line V) (ahead : List (Line V)) (rule : Rule) → first_not (line_test same plan j (x ∷ ahead)) all_rules ≡ Some rule → shifted k (machine_verdict_from same plan j (x ∷ ahead)) ≡ Some (k, rule)
  loop-broken k j x ahead rule e =
      ap (λ o. shifted k (or_later o (option_and_then (λ after. machine_verdict_from same plan (block_after plan j x after ahead) ahead) (next_position plan j.at x)))) e
      ∙ ap (λ i. Some (i, rule)) (let z : k + 0 ≡ k = omega arith in z)

  -- one that keeps all
  pub loop-kept : (k : ℕ) (j : BlockState V) (x : Line V) (ahead : List (Line V)) (after : Position) → first_not (line_test same plan j (x ∷ ahead)) all_rules ≡ None → next_position plan j.at x ≡ Some after →
      shifted k (machine_verdict_from same plan j (x ∷ ahead)) ≡ shifted (suc k) (machine_verdict_from same plan (block_after plan j x after ahead) ahead)
  loop-kept k j x ahead after e next =
      ap₂ (λ (o : Option Rule) (f : Option Position). shifted k (or_later o (option_and_then (λ after. machine_verdict_from same plan (block_after plan j x after ahead) ahead) f))) e next
      ∙ shifted-later k (machine_verdict_from same plan (block_after plan j x after ahead) ahead)

  -- behind the last line
  pub loop-broken-end : (k : ℕ) (j : BlockState V) (rule : Rule) → first_not (line_test same plan j []) all_rules ≡ Some rule → shifted k (machine_verdict_from same plan j []) ≡ Some (k, rule)
  loop-broken-end k j rule e = ap (λ o. shifted k (or_later o None)) e ∙ ap (λ i. Some (i, rule)) (let z : k + 0 ≡ k = omega arith in z)

  pub loop-end : (k : ℕ) (j : BlockState V) → first_not (line_test same plan j []) all_rules ≡ None → shifted k (machine_verdict_from same plan j []) ≡ None
  loop-end k j e = ap (λ o. shifted k (or_later o None)) e
