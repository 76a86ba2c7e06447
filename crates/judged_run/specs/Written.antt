-- A legal run as it is written: for each leg the text of a family, the settle line and the settled values.
use Rattle.std.specs.Prelude.{◌≡◌, ℕ, zero, suc, ◌==◌, List, [], ◌∷◌, ◌++◌, map, length, if◌then◌else◌}
use Rattle.std.specs.List.{AllZip}
use Rattle.std.proofs.Common.{reverse}
use Rattle.propagation.specs.History.{Central, now}
use Rattle.propagation.specs.Logs.{Entry}
use Rattle.propagation.specs.Rules.{Legal, Quiet}
use Rattle.judged_run.specs.Texts.{LegPlan, RunPlan, Line}
use Rattle.judged_run.specs.Texts.LogLine.{entry}
use Rattle.judged_run.specs.Texts.Line.{passed_line, log_line, settle_line, value_line}

-- ---- the text of a family

-- the logs of the services from n on, each with its first entry first
abbrev pub logs_from : {V : Type 0} → ℕ → List (List (Entry V)) → List (Line V)
logs_from n [] = []
logs_from n (log ∷ logs) = map (λ x. log_line n (entry x)) log ++ logs_from (suc n) logs

-- the log of m among them
abbrev pub log_of : {V : Type 0} → ℕ → List (List (Entry V)) → ℕ → List (Entry V)
log_of n [] m = []
log_of n (log ∷ logs) m = if n == m then log else log_of (suc n) logs m

-- the family of these logs, as the rules read it
abbrev pub family_of : {V : Type 0} → List (List (Entry V)) → ℕ → List (Entry V)
family_of logs m = reverse (log_of 0 logs m)

-- ---- the settled text

-- the value lines of the services from n on
abbrev pub values_from : {V : Type 0} → ℕ → List V → List (Line V)
values_from n [] = []
values_from n (v ∷ vs) = value_line n v ∷ values_from (suc n) vs

-- the services from n on, so many
abbrev pub numbers : ℕ → ℕ → List ℕ
numbers n zero = []
numbers n (suc count) = n ∷ numbers (suc n) count

-- the settled value of each declared service
abbrev pub settled_values : {V D : Type 0} → LegPlan V D → List V
settled_values s = map s.value (numbers 0 s.count)

-- for each leg from the k-th on its settle line and the settled values
abbrev pub settled_lines : {V D : Type 0} → ℕ → List (LegPlan V D) → List (Line V)
settled_lines k [] = []
settled_lines k (s ∷ legs) = settle_line k ∷ (values_from 0 (settled_values s) ++ settled_lines (suc k) legs)

-- ---- the traced text

-- the same, with the logs of a family before each settle line
abbrev pub traced_lines : {V D : Type 0} → ℕ → List (LegPlan V D) → List (List (List (Entry V))) → List (Line V)
traced_lines k [] families = []
traced_lines k (s ∷ legs) [] = []
traced_lines k (s ∷ legs) (logs ∷ families) = logs_from 0 logs ++ settle_line k ∷ (values_from 0 (settled_values s) ++ traced_lines (suc k) legs families)

-- without the lines that are passed over
abbrev pub unpassed : {V : Type 0} → List (Line V) → List (Line V)
unpassed [] = []
unpassed (passed_line ∷ lines) = unpassed lines
unpassed (x ∷ lines) = x ∷ unpassed lines

-- without the log lines too
abbrev pub untraced : {V : Type 0} → List (Line V) → List (Line V)
untraced [] = []
untraced (passed_line ∷ lines) = untraced lines
untraced (log_line n x ∷ lines) = untraced lines
untraced (x ∷ lines) = x ∷ untraced lines

-- there is a log for each declared service, and together they are a legal and quiet family
pub record LegalFamily {V D : Type 0} (s : LegPlan V D) (logs : List (List (Entry V))) : Type 0 where
  pub each : length logs ≡ s.count
  pub legal : Legal s.leg (family_of logs)
  pub quiet : Quiet s.leg (family_of logs)

-- the lines, but for those passed over, are for each leg such logs, its settle line and the settled values
abbrev pub IsTraced : {V D : Type 0} → RunPlan V D → List (Line V) → Type 0
IsTraced {V} plan lines = (families : List (List (List (Entry V)))) × AllZip LegalFamily plan.legs families × (unpassed lines ≡ traced_lines 1 plan.legs families)

-- ---- with whatever values are shown

-- the logs of a leg and the values after it
pub record Block (V : Type 0) : Type 0 where
  pub logs : List (List (Entry V))
  pub values : List V

-- the blocks from the k-th leg on
abbrev pub run_lines : {V : Type 0} → ℕ → List (Block V) → List (Line V)
run_lines k [] = []
run_lines k (b ∷ bs) = logs_from 0 b.logs ++ settle_line k ∷ (values_from 0 b.values ++ run_lines (suc k) bs)

-- the logs are such a family, and the values are central
pub record LegalBlock {V D : Type 0} (s : LegPlan V D) (b : Block V) : Type 0 where
  pub each : length b.logs ≡ s.count
  pub legal : Legal s.leg (family_of b.logs)
  pub quiet : Quiet s.leg (family_of b.logs)
  pub central : Central s.leg.book (now s.leg.book) (numbers 0 s.count) b.values

-- the lines are those of such blocks, one for each leg
abbrev pub IsWritten : {V D : Type 0} → RunPlan V D → List (Line V) → Type 0
IsWritten {V} plan lines = (blocks : List (Block V)) × AllZip LegalBlock plan.legs blocks × (unpassed lines ≡ run_lines 1 blocks)
