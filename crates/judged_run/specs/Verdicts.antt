-- The rules of a line as tests, and the verdict that a judge computes. `same` is the test of two values.
use Rattle.std.specs.Prelude.{ℕ, suc, Bool, true, false, not, ◌&&◌, ◌==◌, List, [], ◌∷◌, map, length, is_some, if◌then◌else◌}
use Rattle.std.proofs.Common.{Option, Some, None}
use Rattle.propagation.specs.Lists.{numbered}
use Rattle.propagation.specs.History.{deps}
use Rattle.propagation.specs.Logs.{Frame, Entry, Leg, own}
use Rattle.propagation.specs.Logs.Entry.{Took, Computed}
use Rattle.propagation.specs.Lines as Entries
use Rattle.propagation.specs.Deciding.{implies, if_any, some_and, same_frame, has_answered, is_paired, agreed, keeps, is_quiet}
use Rattle.judged_run.specs.Texts.{LegPlan, RunPlan, LogLine, Line, Position, position_after, log_lines, entries, family, frames_given, count_taken, block_end, last_log}
use Rattle.judged_run.specs.Texts.LogLine.{entry, took_bytes, sent_bytes}
use Rattle.judged_run.specs.Texts.Line.{log_line, settle_line, value_line}
use Rattle.judged_run.specs.Texts.Position.{in_logs, in_values}
use Rattle.judged_run.specs.LineRules.{Rule, leg_plan_of}
use Rattle.judged_run.specs.LineRules.Rule.{J1, J2, J3, J4, J5, J6, J7, J8, J9}

-- ---- one log line

-- each value is of its service's type
abbrev pub all_typed : {V : Type 0} → (ℕ → V → Bool) → List ℕ → List V → Bool
all_typed has_type [] [] = true
all_typed has_type (p ∷ ps) (v ∷ vs) = has_type p v && all_typed has_type ps vs
all_typed has_type ps vs = false

-- each picked value is of its service's type
abbrev pub picks_are_typed : {V D : Type 0} → (ℕ → V → Bool) → Leg V D → ℕ → Entry V → List (Entry V) → Bool
picks_are_typed has_type g n (Computed v S picks) before = if_any (λ ms. all_typed has_type (deps g.book n (own g n before)) (map (λ m. m.value) ms)) (agreed g n before picks)
picks_are_typed has_type g n x before = true

-- what n's log says keeps the rule
abbrev pub log_line_keeps : {V D : Type 0} → (V → V → Bool) → ℕ → (ℕ → V → Bool) → Leg V D → (ℕ → List (Option (Frame V))) → ℕ → Rule → LogLine V → List (LogLine V) → Bool
log_line_keeps same count has_type g given n J2 (entry x) before = keeps same count g (λ k. []) n Entries.Rule.J2 x (entries before)
log_line_keeps same count has_type g given n J3 (entry (Took p f)) before =
    some_and (λ o. some_and (λ h. same_frame same h f) o) (numbered (given p) (count_taken p before)) && is_paired g n p f (entries before)
log_line_keeps same count has_type g given n J3 (took_bytes p) before = false
log_line_keeps same count has_type g given n J4 (entry x) before = keeps same count g (λ k. []) n Entries.Rule.J4 x (entries before)
log_line_keeps same count has_type g given n J4 (took_bytes p) before = has_answered same count g n (entries before)
log_line_keeps same count has_type g given n J4 (sent_bytes q) before = false
log_line_keeps same count has_type g given n J5 (entry x) before = keeps same count g (λ k. []) n Entries.Rule.J5 x (entries before)
log_line_keeps same count has_type g given n J6 (entry x) before = keeps same count g (λ k. []) n Entries.Rule.J6 x (entries before)
log_line_keeps same count has_type g given n J7 (entry x) before = keeps same count g (λ k. []) n Entries.Rule.J7 x (entries before) && picks_are_typed has_type g n x (entries before)
log_line_keeps same count has_type g given n rule x before = true

-- ---- one line

-- where a log ends before this line, no asked frame of it is missing
abbrev pub ended_log_answers : {V D : Type 0} → (V → V → Bool) → ℕ → Leg V D → List (Line V) → (ℕ → Bool) → Bool
ended_log_answers same count g past goes_on = if_any (λ m. implies (not (goes_on m)) (has_answered same count g m (family past m))) (last_log past)

-- a line of the leg s keeps the rule J2 to J9
abbrev pub rule_kept : {V D : Type 0} → (V → V → Bool) → RunPlan V D → List (Line V) → Line V → List (Line V) → Rule → LegPlan V D → Bool
rule_kept same plan past (log_line n x) ahead J4 s =
    log_line_keeps same s.count plan.has_type s.leg (λ p. []) n J4 x (log_lines n past) && ended_log_answers same s.count s.leg past (λ m. m == n)
rule_kept same plan past (log_line n x) ahead rule s =
    log_line_keeps same s.count plan.has_type s.leg (λ p. frames_given n (log_lines p (block_end plan past (log_line n x ∷ ahead)))) n rule x (log_lines n past)
rule_kept same plan past (settle_line k) ahead J4 s = ended_log_answers same s.count s.leg past (λ m. false)
rule_kept same plan past (settle_line k) ahead J8 s = is_quiet same s.count s.leg (family past)
rule_kept same plan past (value_line n v) ahead J9 s = same v (s.value n)
rule_kept same plan past x ahead rule s = true

-- all legs have been judged
abbrev pub is_end : ℕ → Position → Bool
is_end legs (in_logs k least) = k == legs
is_end legs (in_values k next) = false

-- the line with which `rest` begins keeps the rule
abbrev pub line_keeps : {V D : Type 0} → (V → V → Bool) → RunPlan V D → List (Line V) → List (Line V) → Rule → Bool
line_keeps same plan past [] J1 = some_and (is_end (length plan.legs)) (position_after plan past)
line_keeps same plan past [] rule = true
line_keeps same plan past (x ∷ ahead) J1 = is_some (position_after plan (x ∷ past))
line_keeps same plan past (x ∷ ahead) rule = if_any (rule_kept same plan past x ahead rule) (leg_plan_of plan past x)

-- ---- a run

-- the rules, the least first
abbrev pub all_rules : List Rule
all_rules = J1 ∷ J2 ∷ J3 ∷ J4 ∷ J5 ∷ J6 ∷ J7 ∷ J8 ∷ J9 ∷ []

-- the first that is not kept
abbrev pub first_not : (Rule → Bool) → List Rule → Option Rule
first_not f [] = None
first_not f (rule ∷ rules) = if f rule then first_not f rules else Some rule

-- the same verdict, one line later
abbrev pub later : Option (ℕ × Rule) → Option (ℕ × Rule)
later None = None
later (Some x) = Some (suc x.0, x.1)

-- the verdict of a line, else that of those behind it
abbrev pub or_later : Option Rule → Option (ℕ × Rule) → Option (ℕ × Rule)
or_later None o = later o
or_later (Some rule) o = Some (0, rule)

-- The first line from here on that breaks a rule, by the number of lines before it, with its least rule.
abbrev pub verdict_from : {V D : Type 0} → (V → V → Bool) → RunPlan V D → List (Line V) → List (Line V) → Option (ℕ × Rule)
verdict_from same plan past [] = or_later (first_not (line_keeps same plan past []) all_rules) None
verdict_from same plan past (x ∷ ahead) = or_later (first_not (line_keeps same plan past (x ∷ ahead)) all_rules) (verdict_from same plan (x ∷ past) ahead)

-- the verdict of a run
abbrev pub verdict : {V D : Type 0} → (V → V → Bool) → RunPlan V D → List (Line V) → Option (ℕ × Rule)
verdict same plan lines = verdict_from same plan [] lines
