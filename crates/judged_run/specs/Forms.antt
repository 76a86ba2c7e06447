-- The form of a run in its own words: for each leg what each log says, services in order, the settle line, and a value line for each service.
use Rattle.std.specs.Prelude.{◌≡◌, ℕ, suc, true, List, [], ◌∷◌, ◌++◌, map, length}
use Rattle.std.specs.List.{AllZip}
use Rattle.propagation.specs.Lists.{Has}
use Rattle.judged_run.specs.Texts.{LegPlan, RunPlan, LogLine, Line, names_below, Begins, IsWhole}
use Rattle.judged_run.specs.Texts.Line.{log_line, settle_line}
use Rattle.judged_run.specs.Runs.{after_lines}
use Rattle.judged_run.specs.Written.{values_from, unpassed}

-- what the logs of the services from n on say
abbrev pub log_lines_from : {V : Type 0} → ℕ → List (List (LogLine V)) → List (Line V)
log_lines_from n [] = []
log_lines_from n (log ∷ logs) = map (λ x. log_line n x) log ++ log_lines_from (suc n) logs

-- a block: what each log says, and the values
pub record TextBlock (V : Type 0) : Type 0 where
  pub logs : List (List (LogLine V))
  pub values : List V

-- the blocks from the k-th leg on
abbrev pub text_lines : {V : Type 0} → ℕ → List (TextBlock V) → List (Line V)
text_lines k [] = []
text_lines k (b ∷ bs) = log_lines_from 0 b.logs ++ settle_line k ∷ (values_from 0 b.values ++ text_lines (suc k) bs)

-- each line names only services that are declared
abbrev pub AllDeclared : {V : Type 0} → ℕ → List (List (LogLine V)) → Type 0
AllDeclared {V} count logs = (log : List (LogLine V)) → Has logs log → (x : LogLine V) → Has log x → names_below count x ≡ true

-- there is a log and a value for each service that is declared
pub record HasForm {V D : Type 0} (s : LegPlan V D) (b : TextBlock V) : Type 0 where
  pub each : length b.logs ≡ s.count
  pub named : AllDeclared s.count b.logs
  pub values : length b.values ≡ s.count

-- the lines, but for those passed over, are such blocks, one for each leg
abbrev pub IsText : {V D : Type 0} → RunPlan V D → List (Line V) → Type 0
IsText {V} plan lines = (bs : List (TextBlock V)) × AllZip HasForm plan.legs bs × (unpassed lines ≡ text_lines 1 bs)

-- Lines are a whole run by their form exactly where they are such a text, and they begin one exactly where some lines go on to one.
abbrev pub FormsAreTexts : Type 0 → Type 0 → Type 0
FormsAreTexts V D =
    (plan : RunPlan V D) (lines : List (Line V)) →
    ((IsWhole plan (after_lines [] lines) → IsText plan lines) × (IsText plan lines → IsWhole plan (after_lines [] lines)))
    × ((Begins plan (after_lines [] lines) → (rest : List (Line V)) × IsText plan (lines ++ rest)) × (((rest : List (Line V)) × IsText plan (lines ++ rest)) → Begins plan (after_lines [] lines)))
