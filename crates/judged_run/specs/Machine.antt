-- The judge as a machine that goes over the lines once, and once more over each block when it begins, to collect what is sent in it.
use Rattle.std.specs.Prelude.{ℕ, Bool, true, false, not, ◌&&◌, ◌==◌, List, [], ◌∷◌, ◌++◌, length, is_some, option_and_then, option_map, if◌then◌else◌}
use Rattle.std.proofs.Common.{Option, Some, None, unwrap_or}
use Rattle.propagation.specs.Logs.{Frame}
use Rattle.propagation.specs.Logs.Entry.{Sent}
use Rattle.propagation.specs.Deciding.{implies, if_any}
use Rattle.judged_run.specs.Texts.{LegPlan, RunPlan, LogLine, Line, Position, leg_plan, next_position}
use Rattle.judged_run.specs.Texts.LogLine.{entry, sent_bytes}
use Rattle.judged_run.specs.Texts.Line.{log_line, settle_line, value_line}
use Rattle.judged_run.specs.Texts.Position.{in_logs, in_values}
use Rattle.judged_run.specs.LineRules.{Rule}
use Rattle.judged_run.specs.LineRules.Rule.{J1, J4, J8, J9}
use Rattle.judged_run.specs.Verdicts.{is_end, all_rules, first_not, or_later}
use Rattle.judged_run.specs.LogStates.{LogState, state_before, after_log_line, none_is_due, log_line_test, is_quiet_from}

-- ---- what is sent in a block

-- for each sender and receiver what was sent, the first one first
abbrev pub SentTable : Type 0 → Type 0
SentTable V = ℕ → ℕ → List (Option (Frame V))

-- the table with what n's log says
abbrev pub with_log_line : {V : Type 0} → ℕ → LogLine V → SentTable V → SentTable V
with_log_line n (entry (Sent r f)) table p q = if n == p then (if r == q then table p q ++ Some f ∷ [] else table p q) else table p q
with_log_line n (sent_bytes r) table p q = if n == p then (if r == q then table p q ++ None ∷ [] else table p q) else table p q
with_log_line n x table p q = table p q

-- the table with a line
abbrev pub with_line : {V : Type 0} → Line V → SentTable V → SentTable V
with_line (log_line n x) table = with_log_line n x table
with_line x table = table

-- the table with the lines up to the end of the block, or of the form
abbrev pub collect_sent : {V D : Type 0} → RunPlan V D → Position → SentTable V → List (Line V) → SentTable V
collect_sent plan at table [] = table
collect_sent plan at table (settle_line k ∷ ahead) = table
collect_sent plan at table (x ∷ ahead) = unwrap_or (option_map (λ after. collect_sent plan after (with_line x table) ahead) (next_position plan at x)) table

-- ---- the state

-- what the next line may be, what is kept of each log of the block that stands open, whose log line stands last, and what is sent in the block
pub record BlockState (V : Type 0) : Type 0 where
  pub at : Position
  pub states : ℕ → LogState V
  pub current : Option ℕ
  pub table : SentTable V

-- the leg that the form tells
abbrev pub leg_plan_at : {V D : Type 0} → RunPlan V D → Position → Option (LegPlan V D)
leg_plan_at plan (in_logs k least) = leg_plan plan k
leg_plan_at plan (in_values k next) = leg_plan plan k

-- a log of which nothing is known
abbrev pub no_state : {V : Type 0} → LogState V
no_state =
    record {
      clock = 0;
      edges = λ p. None;
      heard = λ p e. [];
      heard_last = λ p e. [];
      came = λ p e. [];
      took = λ p. 0;
      readers = λ q. [];
      told_to = λ q e. [];
      told_last = λ q e. [];
      top = λ q. 0;
      last = None;
      work = (0, []);
      due = λ q. [];
    }

-- the logs of a leg before its block
abbrev pub states_before : {V D : Type 0} → Option (LegPlan V D) → ℕ → LogState V
states_before None n = no_state
states_before (Some s) n = state_before s.leg n

-- the state before a block, or before a value line
abbrev pub block_before : {V D : Type 0} → RunPlan V D → Position → List (Line V) → BlockState V
block_before plan (in_logs k least) ahead = record { at = in_logs k least; states = states_before (leg_plan plan k); current = None; table = collect_sent plan (in_logs k least) (λ p q. []) ahead }
block_before plan (in_values k next) ahead = record { at = in_values k next; states = λ n. no_state; current = None; table = λ p q. [] }

-- what is kept of the logs after a line of n's
abbrev pub states_after : {V D : Type 0} → Option (LegPlan V D) → ℕ → LogLine V → (ℕ → LogState V) → ℕ → LogState V
states_after None n x states m = states m
states_after (Some s) n x states m = if n == m then after_log_line s.leg m x (states m) else states m

-- the state after a line that keeps all rules
abbrev pub block_after : {V D : Type 0} → RunPlan V D → BlockState V → Line V → Position → List (Line V) → BlockState V
block_after plan j (log_line n x) after ahead = record { at = after; states = states_after (leg_plan_at plan j.at) n x j.states; current = Some n; table = j.table }
block_after plan j (settle_line k) after ahead = block_before plan after ahead
block_after plan j (value_line n v) after ahead = block_before plan after ahead
block_after plan j x after ahead = record { at = after; states = j.states; current = j.current; table = j.table }

-- where a log ends before this line, no frame is due
abbrev pub ended_log_test : {V : Type 0} → ℕ → BlockState V → (ℕ → Bool) → Bool
ended_log_test count j goes_on = if_any (λ m. implies (not (goes_on m)) (none_is_due count (j.states m))) j.current

-- a line of the leg s keeps the rule J2 to J9
abbrev pub rule_test : {V D : Type 0} → (V → V → Bool) → RunPlan V D → BlockState V → Line V → Rule → LegPlan V D → Bool
rule_test same plan j (log_line n x) J4 s = log_line_test same s.count plan.has_type s.leg (λ p. []) n J4 x (j.states n) && ended_log_test s.count j (λ m. m == n)
rule_test same plan j (log_line n x) rule s = log_line_test same s.count plan.has_type s.leg (λ p. j.table p n) n rule x (j.states n)
rule_test same plan j (settle_line k) J4 s = ended_log_test s.count j (λ m. false)
rule_test same plan j (settle_line k) J8 s = is_quiet_from s.count s.leg j.table j.states
rule_test same plan j (value_line n v) J9 s = same v (s.value n)
rule_test same plan j x rule s = true

-- the line with which `rest` begins keeps the rule
abbrev pub line_test : {V D : Type 0} → (V → V → Bool) → RunPlan V D → BlockState V → List (Line V) → Rule → Bool
line_test same plan j [] J1 = is_end (length plan.legs) j.at
line_test same plan j [] rule = true
line_test same plan j (x ∷ ahead) J1 = is_some (next_position plan j.at x)
line_test same plan j (x ∷ ahead) rule = if_any (rule_test same plan j x rule) (leg_plan_at plan j.at)

-- the first line from here on that breaks a rule
abbrev pub machine_verdict_from : {V D : Type 0} → (V → V → Bool) → RunPlan V D → BlockState V → List (Line V) → Option (ℕ × Rule)
machine_verdict_from same plan j [] = or_later (first_not (line_test same plan j []) all_rules) None
machine_verdict_from same plan j (x ∷ ahead) =
    or_later (first_not (line_test same plan j (x ∷ ahead)) all_rules) (option_and_then (λ after. machine_verdict_from same plan (block_after plan j x after ahead) ahead) (next_position plan j.at x))

-- the verdict of a run
abbrev pub machine_verdict : {V D : Type 0} → (V → V → Bool) → RunPlan V D → List (Line V) → Option (ℕ × Rule)
machine_verdict same plan lines = machine_verdict_from same plan (block_before plan (in_logs 0 0) lines) lines
