-- What each line of a run breaks, and the first line that breaks a rule.
use Rattle.std.specs.Prelude.{◌≡◌, ◌<◌, ℕ, zero, suc, Bool, true, false, ◌==◌, List, [], ◌∷◌, map}
use Rattle.std.specs.List.{AllZip}
use Rattle.std.proofs.Common.{Option, Some, None}
use Rattle.propagation.specs.Lists.{numbered}
use Rattle.propagation.specs.History.{CentralAt, deps, now}
use Rattle.propagation.specs.Logs.{Emission, Frame, Entry, Leg, own}
use Rattle.propagation.specs.Logs.Entry.{Took, Computed}
use Rattle.propagation.specs.Rules.{Quiet}
use Rattle.propagation.specs.Lines.{Answers, IsPaired, PicksAgree, Keeps}
use Rattle.propagation.specs.Lines as Entries
use Rattle.judged_run.specs.Texts.{LegPlan, RunPlan, LogLine, Line, leg_plan, Begins, IsWhole, blocks, log_lines, entries, family, frames_given, count_taken, block_end, last_log, computed_lines}
use Rattle.judged_run.specs.Texts.LogLine.{entry, took_bytes, sent_bytes}
use Rattle.judged_run.specs.Texts.Line.{log_line, settle_line, value_line}

-- The rules of a line: J1 of the form, J2 to J7 of a log line as of an entry, J4 also of the line behind a log, J8 of a settle line, J9 of a value line.
pub data Rule : Type 0 where
  J1 : Rule
  J2 : Rule
  J3 : Rule
  J4 : Rule
  J5 : Rule
  J6 : Rule
  J7 : Rule
  J8 : Rule
  J9 : Rule

-- its number
abbrev pub rule_number : Rule → ℕ
rule_number J1 = 1
rule_number J2 = 2
rule_number J3 = 3
rule_number J4 = 4
rule_number J5 = 5
rule_number J6 = 6
rule_number J7 = 7
rule_number J8 = 8
rule_number J9 = 9

-- ---- one log line

-- each picked value is of its service's type, so that the definition takes it
abbrev pub PicksAreTyped : {V D : Type 0} → (ℕ → V → Bool) → Leg V D → ℕ → Entry V → List (Entry V) → Type 0
PicksAreTyped {V} has_type g n (Computed v S picks) before =
    (ms : List (Emission V)) → PicksAgree g n before picks ms → AllZip (λ p w. has_type p w ≡ true) (deps g.book n (own g n before)) (map (λ m. m.value) ms)
PicksAreTyped has_type g n x before = Unit {0}

-- What n's log says keeps the rule after what it said before. `given p` is what p sends to n in the whole block.
abbrev pub LogLineKeeps : {V D : Type 0} → (ℕ → V → Bool) → Leg V D → (ℕ → List (Option (Frame V))) → ℕ → Rule → LogLine V → List (LogLine V) → Type 0
LogLineKeeps has_type g given n J2 (entry x) before = Keeps g (λ k. []) n Entries.Rule.J2 x (entries before)
LogLineKeeps has_type g given n J3 (entry (Took p f)) before = (numbered (given p) (count_taken p before) ≡ Some (Some f)) × IsPaired g n p f (entries before)
LogLineKeeps has_type g given n J3 (took_bytes p) before = ⊥
LogLineKeeps has_type g given n J4 (entry x) before = Keeps g (λ k. []) n Entries.Rule.J4 x (entries before)
LogLineKeeps has_type g given n J4 (took_bytes p) before = Answers g n (entries before)
LogLineKeeps has_type g given n J4 (sent_bytes q) before = ⊥
LogLineKeeps has_type g given n J5 (entry x) before = Keeps g (λ k. []) n Entries.Rule.J5 x (entries before)
LogLineKeeps has_type g given n J6 (entry x) before = Keeps g (λ k. []) n Entries.Rule.J6 x (entries before)
LogLineKeeps has_type g given n J7 (entry x) before = Keeps g (λ k. []) n Entries.Rule.J7 x (entries before) × PicksAreTyped has_type g n x (entries before)
LogLineKeeps has_type g given n rule x before = Unit {0}

-- ---- one line

-- the leg of a value line: that of the last settle line
abbrev pub leg_plan_shown : {V D : Type 0} → RunPlan V D → ℕ → Option (LegPlan V D)
leg_plan_shown plan zero = None
leg_plan_shown plan (suc k) = leg_plan plan k

-- Where the log of another service ends before this line, no asked frame of it is missing.
abbrev pub EndedLogAnswers : {V D : Type 0} → Leg V D → List (Line V) → (ℕ → Bool) → Type 0
EndedLogAnswers g past goes_on = (m : ℕ) → last_log past ≡ Some m → goes_on m ≡ false → Answers g m (family past m)

-- A line of the leg s keeps the rule J2 to J9, after the lines before it.
abbrev pub RuleKept : {V D : Type 0} → RunPlan V D → List (Line V) → Line V → List (Line V) → Rule → LegPlan V D → Type 0
RuleKept plan past (log_line n x) ahead J4 s = LogLineKeeps plan.has_type s.leg (λ p. []) n J4 x (log_lines n past) × EndedLogAnswers s.leg past (λ m. m == n)
RuleKept plan past (log_line n x) ahead rule s =
    LogLineKeeps plan.has_type s.leg (λ p. frames_given n (log_lines p (block_end plan past (log_line n x ∷ ahead)))) n rule x (log_lines n past)
RuleKept plan past (settle_line k) ahead J4 s = EndedLogAnswers s.leg past (λ m. false)
RuleKept plan past (settle_line k) ahead J8 s = Quiet s.leg (family past)
RuleKept plan past (value_line n v) ahead J9 s = CentralAt s.leg.book (now s.leg.book) n v
RuleKept plan past x ahead rule s = Unit {0}

-- the leg of a line
abbrev pub leg_plan_of : {V D : Type 0} → RunPlan V D → List (Line V) → Line V → Option (LegPlan V D)
leg_plan_of plan past (value_line n v) = leg_plan_shown plan (blocks past)
leg_plan_of plan past x = leg_plan plan (blocks past)

-- The line after the lines `past`, with which `rest` begins, keeps the rule. Behind the last line of a run its form must be whole.
abbrev pub LineKeeps : {V D : Type 0} → RunPlan V D → List (Line V) → List (Line V) → Rule → Type 0
LineKeeps plan past [] J1 = IsWhole plan past
LineKeeps plan past [] rule = Unit {0}
LineKeeps plan past (x ∷ ahead) J1 = Begins plan (x ∷ past)
LineKeeps {V} {D} plan past (x ∷ ahead) rule = (s : LegPlan V D) → leg_plan_of plan past x ≡ Some s → RuleKept plan past x ahead rule s

-- ---- a run

-- The line behind the first k of these lines keeps the rule.
abbrev pub KeepsAt : {V D : Type 0} → RunPlan V D → List (Line V) → List (Line V) → ℕ → Rule → Type 0
KeepsAt plan past rest zero rule = LineKeeps plan past rest rule
KeepsAt plan past [] (suc k) rule = Unit {0}
KeepsAt plan past (x ∷ ahead) (suc k) rule = KeepsAt plan (x ∷ past) ahead k rule

-- no line breaks a rule
abbrev pub IsLegalRun : {V D : Type 0} → RunPlan V D → List (Line V) → Type 0
IsLegalRun plan lines = (k : ℕ) (rule : Rule) → KeepsAt plan [] lines k rule

-- The line behind the first k is the first that breaks a rule, and this is the least rule that it breaks.
pub record FirstBroken {V D : Type 0} (plan : RunPlan V D) (lines : List (Line V)) (k : ℕ) (rule : Rule) : Type 0 where
  pub breaks : KeepsAt plan [] lines k rule → ⊥
  pub first : (j : ℕ) (r : Rule) → j < k → KeepsAt plan [] lines j r
  pub least : (r : Rule) → rule_number r < rule_number rule → KeepsAt plan [] lines k r

-- ---- the verdict

-- what a judge answers: the run is legal, with how many of its lines are computations; or this line, counted from 1, breaks this rule
pub data Verdict : Type 0 where
  legal_with : ℕ → Verdict
  illegal_at : ℕ → Rule → Verdict

-- This is the verdict of a run. A line that breaks a rule is told by the first that does and by the least rule that it breaks.
abbrev pub IsVerdict : {V D : Type 0} → RunPlan V D → List (Line V) → Verdict → Type 0
IsVerdict plan lines (legal_with computed) = IsLegalRun plan lines × (computed ≡ computed_lines lines)
IsVerdict plan lines (illegal_at line rule) = (k : ℕ) × (line ≡ suc k) × FirstBroken plan lines k rule
