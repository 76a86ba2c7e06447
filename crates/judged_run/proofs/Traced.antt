-- A written run has the plan's values, so it is a traced one, and without its log lines the settled text.
use Rattle.std.proofs.Common.{◌≡◌, Bool, ℕ, zero, suc, ◌+◌, ◌<◌, List, [], ◌∷◌, ◌++◌, map, refl, ap, ap₂, ◌∙◌, append_assoc, arith, inl, inr}
use Rattle.std.specs.List.{AllZip}
use Rattle.propagation.specs.Lists.{Has}
use Rattle.propagation.specs.History.{Central, now}
use Rattle.propagation.specs.History.Central.{none, more}
use Rattle.propagation.specs.Logs.{Entry}
use Rattle.propagation.proofs.OneValue.{central_is_one}
use Rattle.propagation.proofs.Central.{central_cons}
use Rattle.judged_run.specs.Texts.{LegPlan, RunPlan, IsLegPlan, IsRunPlan, Line}
use Rattle.judged_run.specs.Texts.LogLine.{entry}
use Rattle.judged_run.specs.Texts.Line.{passed_line, log_line, settle_line, value_line, other_line}
use Rattle.judged_run.specs.Written.{logs_from, values_from, numbers, settled_values, settled_lines, traced_lines, unpassed, untraced, LegalFamily, IsTraced, Block, run_lines, LegalBlock, IsWritten}

-- ---- the values are the plan's

module _ {V D : Type 0} (has_type : ℕ → V → Bool) (s : LegPlan V D) (good : IsLegPlan has_type s) where
  same-values : (left n : ℕ) (vs : List V) → n + left ≡ s.count → Central s.leg.book (now s.leg.book) (numbers n left) vs → vs ≡ map s.value (numbers n left)
  same-values zero n vs e none = refl
  same-values (suc left) n vs e (more {v = v} {ws = ws} is cs val rest) =
      let lt : n < s.count = omega arith in
      ap₂ (λ (x : V) (xs : List V). x ∷ xs) (central_is_one V D s.leg.book (now s.leg.book) n v (s.value n) (more is cs val none) (good.central n lt))
      (same-values left (suc n) ws (let z : suc n + left ≡ s.count = omega arith in z) rest)

  central-values : (left n : ℕ) → n + left ≡ s.count → Central s.leg.book (now s.leg.book) (numbers n left) (map s.value (numbers n left))
  central-values zero n e = none
  central-values (suc left) n e =
      let lt : n < s.count = omega arith in
      central_cons s.leg.book (now s.leg.book) (good.central n lt) (central-values left (suc n) (let z : suc n + left ≡ s.count = omega arith in z))

-- ---- both ways

-- the logs of the blocks
abbrev families : {V : Type 0} → List (Block V) → List (List (List (Entry V)))
families blocks = map (λ b. b.logs) blocks

module _ {V D : Type 0} (has_type : ℕ → V → Bool) where
  to-families : (legs : List (LegPlan V D)) (blocks : List (Block V)) → ((s : LegPlan V D) → Has legs s → IsLegPlan has_type s) → AllZip LegalBlock legs blocks →
      (k : ℕ) → AllZip LegalFamily legs (families blocks) × (run_lines k blocks ≡ traced_lines k legs (families blocks))
  to-families [] [] good all k = (tt, refl)
  to-families (s ∷ legs) [] good all k = absurd all
  to-families [] (b ∷ blocks) good all k = absurd all
  to-families (s ∷ legs) (b ∷ blocks) good all k =
      let later = to-families legs blocks (λ t h. good t (inr h)) all.1 (suc k) in
      let values : b.values ≡ settled_values s = same-values has_type s (good s (inl refl)) s.count 0 b.values (omega arith) all.0.central in (
        (record { each = all.0.each; legal = all.0.legal; quiet = all.0.quiet }, later.0),
        ap₂ (λ (vs : List V) (xs : List (Line V)). logs_from 0 b.logs ++ settle_line k ∷ (values_from 0 vs ++ xs)) values later.1,
      )

  from-families : (legs : List (LegPlan V D)) (fs : List (List (List (Entry V)))) → ((s : LegPlan V D) → Has legs s → IsLegPlan has_type s) → AllZip LegalFamily legs fs →
      (k : ℕ) → (blocks : List (Block V)) × AllZip LegalBlock legs blocks × (traced_lines k legs fs ≡ run_lines k blocks)
  from-families [] [] good all k = ([], tt, refl)
  from-families (s ∷ legs) [] good all k = absurd all
  from-families [] (f ∷ fs) good all k = absurd all
  from-families (s ∷ legs) (f ∷ fs) good all k =
      let (blocks, legal, lines) = from-families legs fs (λ t h. good t (inr h)) all.1 (suc k) in (
        record { logs = f; values = settled_values s } ∷ blocks,
        (record { each = all.0.each; legal = all.0.legal; quiet = all.0.quiet; central = central-values has_type s (good s (inl refl)) s.count 0 (omega arith) }, legal),
        ap (λ (xs : List (Line V)). logs_from 0 f ++ settle_line k ∷ (values_from 0 (settled_values s) ++ xs)) lines,
      )

module _ {V D : Type 0} (plan : RunPlan V D) (good : IsRunPlan plan) (lines : List (Line V)) where
  pub written-traced : IsWritten plan lines → IsTraced plan lines
  written-traced (blocks, all, is) = let (legal, same) = to-families plan.has_type plan.legs blocks good all 1 in (families blocks, legal, is ∙ same)

  pub traced-written : IsTraced plan lines → IsWritten plan lines
  traced-written (fs, all, is) = let (blocks, legal, same) = from-families plan.has_type plan.legs fs good all 1 in (blocks, legal, is ∙ same)

-- ---- without the log lines

module _ {V : Type 0} where
  untraced-unpassed : (lines : List (Line V)) → untraced lines ≡ untraced (unpassed lines)
  untraced-unpassed [] = refl
  untraced-unpassed (passed_line ∷ lines) = untraced-unpassed lines
  untraced-unpassed (log_line n x ∷ lines) = untraced-unpassed lines
  untraced-unpassed (settle_line k ∷ lines) = ap (λ xs. settle_line k ∷ xs) (untraced-unpassed lines)
  untraced-unpassed (value_line n v ∷ lines) = ap (λ xs. value_line n v ∷ xs) (untraced-unpassed lines)
  untraced-unpassed (other_line ∷ lines) = ap (λ xs. other_line ∷ xs) (untraced-unpassed lines)

  no-log : (n : ℕ) (log : List (Entry V)) (rest : List (Line V)) → untraced (map (λ x. log_line n (entry x)) log ++ rest) ≡ untraced rest
  no-log n [] rest = refl
  no-log n (x ∷ log) rest = no-log n log rest

  no-logs : (n : ℕ) (logs : List (List (Entry V))) (rest : List (Line V)) → untraced (logs_from n logs ++ rest) ≡ untraced rest
  no-logs n [] rest = refl
  no-logs n (log ∷ logs) rest = ap (λ xs. untraced xs) (append_assoc (map (λ x. log_line n (entry x)) log) (logs_from (suc n) logs) rest) ∙ no-log n log (logs_from (suc n) logs ++ rest) ∙ no-logs (suc n) logs rest

  values-stay : (n : ℕ) (vs : List V) (rest : List (Line V)) → untraced (values_from n vs ++ rest) ≡ values_from n vs ++ untraced rest
  values-stay n [] rest = refl
  values-stay n (v ∷ vs) rest = ap (λ xs. value_line n v ∷ xs) (values-stay (suc n) vs rest)

module _ {V D : Type 0} where
  traced-settled : (legs : List (LegPlan V D)) (fs : List (List (List (Entry V)))) (k : ℕ) → AllZip LegalFamily legs fs → untraced (traced_lines k legs fs) ≡ settled_lines k legs
  traced-settled [] [] k all = refl
  traced-settled (s ∷ legs) [] k all = absurd all
  traced-settled [] (f ∷ fs) k all = absurd all
  traced-settled (s ∷ legs) (f ∷ fs) k all =
      no-logs 0 f (settle_line k ∷ (values_from 0 (settled_values s) ++ traced_lines (suc k) legs fs))
      ∙ ap (λ xs. settle_line k ∷ xs) (values-stay 0 (settled_values s) (traced_lines (suc k) legs fs) ∙ ap (λ xs. values_from 0 (settled_values s) ++ xs) (traced-settled legs fs (suc k) all.1))

  pub settled-text : (plan : RunPlan V D) (lines : List (Line V)) → IsTraced plan lines → untraced lines ≡ settled_lines 1 plan.legs
  settled-text plan lines (fs, all, is) = untraced-unpassed lines ∙ ap (λ xs. untraced xs) is ∙ traced-settled plan.legs fs 1 all
