-- The laws of judged runs.
use Rattle.std.specs.Prelude.{◌≡◌, Decides, Bool, ℕ, suc, List, [], ◌⊎◌, is_none}
use Rattle.std.proofs.Common.{Option, Some, None}
use Rattle.propagation.specs.Deciding.{IsSame}
use Rattle.judged_run.specs.Texts.{RunPlan, IsRunPlan, Line, computed_lines}
use Rattle.judged_run.specs.LineRules.{Rule, IsLegalRun, FirstBroken, Verdict, IsVerdict}
use Rattle.judged_run.specs.LineRules.Verdict.{legal_with, illegal_at}
use Rattle.judged_run.specs.Verdicts.{verdict}
use Rattle.judged_run.specs.Machine.{machine_verdict}
use Rattle.judged_run.specs.Written.{untraced, settled_lines, IsTraced}
use Rattle.judged_run.specs.Runs.{EachBlock, BlockIsSettled, IsRun}

-- A run has at most one verdict: legal, or one first line that breaks a rule with one least rule.
abbrev pub VerdictsAreOne : Type 0 → Type 0 → Type 0
VerdictsAreOne V D = (plan : RunPlan V D) (lines : List (Line V)) (v w : Verdict) → IsVerdict plan lines v → IsVerdict plan lines w → v ≡ w

-- It has one, where values can be compared and the plan is one that an accepted document gives.
abbrev pub OneVerdictHolds : Type 0 → Type 0 → Type 0
OneVerdictHolds V D =
    (same : V → V → Bool) (plan : RunPlan V D) (lines : List (Line V)) → IsSame same → IsRunPlan plan →
    (v : Verdict) × IsVerdict plan lines v × ((w : Verdict) → IsVerdict plan lines w → w ≡ v)

-- The tests of the lines give it: none where the run is legal, and else how many lines stand before the first that breaks a rule, and the rule.
abbrev pub VerdictsAreExact : Type 0 → Type 0 → Type 0
VerdictsAreExact V D =
    (same : V → V → Bool) (plan : RunPlan V D) (lines : List (Line V)) → IsSame same → IsRunPlan plan →
    Decides (is_none (verdict same plan lines)) (IsLegalRun plan lines)
    × ((k : ℕ) (rule : Rule) → (verdict same plan lines ≡ Some (k, rule) → FirstBroken plan lines k rule) × (FirstBroken plan lines k rule → verdict same plan lines ≡ Some (k, rule)))
    × (IsLegalRun plan lines ⊎ ((k : ℕ) × (rule : Rule) × FirstBroken plan lines k rule))

-- what was found, as the verdict of these lines
abbrev pub as_verdict : {V : Type 0} → List (Line V) → Option (ℕ × Rule) → Verdict
as_verdict lines None = legal_with (computed_lines lines)
as_verdict lines (Some x) = illegal_at (suc x.0) x.1

-- The machine that goes over the lines once gives the verdict, for all rules.
abbrev pub MachinesAreExact : Type 0 → Type 0 → Type 0
MachinesAreExact V D =
    (same : V → V → Bool) (plan : RunPlan V D) (lines : List (Line V)) → IsSame same → IsRunPlan plan →
    (machine_verdict same plan lines ≡ verdict same plan lines) × IsVerdict plan lines (as_verdict lines (machine_verdict same plan lines))

-- No line breaks a rule exactly where the lines have the form of a run, each block is a legal and quiet family after the history so far with
-- its leg's changes, and each settled value is central.
abbrev pub LegalRunsAreRuns : Type 0 → Type 0 → Type 0
LegalRunsAreRuns V D = (plan : RunPlan V D) (lines : List (Line V)) → IsRunPlan plan → (IsLegalRun plan lines → IsRun plan lines) × (IsRun plan lines → IsLegalRun plan lines)

-- No line breaks a rule exactly where the lines, but for those passed over, are for each leg in order the text of a legal and quiet family, its
-- settle line and the settled values. Then without the log lines they are the settled text.
abbrev pub LegalRunsAreTraced : Type 0 → Type 0 → Type 0
LegalRunsAreTraced V D =
    (plan : RunPlan V D) (lines : List (Line V)) → IsRunPlan plan →
    ((IsLegalRun plan lines → IsTraced plan lines) × (IsTraced plan lines → IsLegalRun plan lines))
    × (IsLegalRun plan lines → untraced lines ≡ settled_lines 1 plan.legs)

-- Then each block is settled, and each of its computations is true.
abbrev pub LegalRunsAreSettled : Type 0 → Type 0 → Type 0
LegalRunsAreSettled V D = (plan : RunPlan V D) (lines : List (Line V)) → IsRunPlan plan → IsLegalRun plan lines → EachBlock BlockIsSettled plan [] lines
