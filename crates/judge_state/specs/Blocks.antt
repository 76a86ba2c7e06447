-- The machine's whole state as lists: those of the log of each declared service, and what is sent in the block.
use Rattle.std.specs.Prelude.{◌≡◌, ◌<◌, ℕ, List, [], length, set, slice_index_or}
use Rattle.std.proofs.Common.{Option, Some, None}
use Rattle.propagation.specs.History.{Book}
use Rattle.propagation.specs.Logs.{Frame}
use Rattle.judged_run.specs.Texts.{LegPlan, RunPlan, IsLegPlan, LogLine, Line, Position, leg_plan}
use Rattle.judged_run.specs.Texts.LogLine.{entry}
use Rattle.judged_run.specs.Texts.Line.{log_line}
use Rattle.judged_run.specs.Texts.Position.{in_logs}
use Rattle.judged_run.specs.LogStates.{state_before}
use Rattle.judged_run.specs.Machine.{BlockState, leg_plan_at, collect_sent, block_before, block_after}
use Rattle.judge_state.specs.Lists.{LogLists, state_of, lists_after}
use Rattle.judge_state.specs.Laws.{AreLogLists, MayFollow}

-- the lists of a log of which nothing is known
abbrev pub no_lists : {V : Type 0} → LogLists V
no_lists = record { clock = 0; edges = []; heard = []; came = []; took = []; readers = []; told = []; top = []; last = None; work = (0, []); due = [] }

-- what the next line may be; the lists of each service's log; whose log line stands last; and for each sender and receiver what is sent, the first one first
pub record BlockLists (V : Type 0) : Type 0 where
  pub at : Position
  pub logs : List (LogLists V)
  pub current : Option ℕ
  pub table : List (List (List (Option (Frame V))))

-- the lists of n's log
abbrev pub lists_at : {V : Type 0} → List (LogLists V) → ℕ → LogLists V
lists_at logs n = slice_index_or logs n no_lists

-- what p sends to q
abbrev pub sent_from_to : {V : Type 0} → List (List (List (Option (Frame V)))) → ℕ → ℕ → List (Option (Frame V))
sent_from_to table p q = slice_index_or (slice_index_or table p []) q []

-- the state that they say
abbrev pub block_of : {V : Type 0} → BlockLists V → BlockState V
block_of d = record { at = d.at; states = λ n. state_of (lists_at d.logs n); current = d.current; table = sent_from_to d.table }

-- the lists after what the log says
abbrev pub lists_after_line : {V D : Type 0} → Book V D → ℕ → LogLine V → LogLists V → LogLists V
lists_after_line b n (entry x) t = lists_after b n x t
lists_after_line b n x t = t

-- what the log may say next
abbrev pub MayStand : {V D : Type 0} → LegPlan V D → ℕ → LogLine V → LogLists V → Type 0
MayStand s n (entry x) t = MayFollow s.leg n s.count x t
MayStand s n x t = Unit {0}

-- the whole after a log line of n
abbrev pub block_lists_after : {V D : Type 0} → Book V D → BlockLists V → ℕ → LogLine V → Position → BlockLists V
block_lists_after b d n x after = record { at = after; logs = set d.logs n (lists_after_line b n x (lists_at d.logs n)); current = Some n; table = d.table }

-- the whole before a block or a value line
abbrev pub block_lists_before : {V : Type 0} → Position → List (LogLists V) → List (List (List (Option (Frame V)))) → BlockLists V
block_lists_before at logs table = record { at = at; logs = logs; current = None; table = table }

-- With the first lists of each declared service's log, and with what is sent in the block, it says the machine's state before the block.
abbrev pub BlockListsBegin : Type 0 → Type 0 → Type 0
BlockListsBegin V D =
    (plan : RunPlan V D) (k least : ℕ) (s : LegPlan V D) (ahead : List (Line V)) (logs : List (LogLists V)) (table : List (List (List (Option (Frame V))))) →
    leg_plan plan k ≡ Some s → IsLegPlan plan.has_type s → length logs ≡ s.count → ((n : ℕ) → n < s.count → state_of (lists_at logs n) ≡ state_before s.leg n) →
    ((p q : ℕ) → sent_from_to table p q ≡ collect_sent plan (in_logs k least) (λ p q. []) ahead p q) → block_of (block_lists_before (in_logs k least) logs table) ≡ block_before plan (in_logs k least) ahead

-- Each log line takes the lists on as it takes the machine on.
abbrev pub BlockListsGoOn : Type 0 → Type 0 → Type 0
BlockListsGoOn V D =
    (plan : RunPlan V D) (d : BlockLists V) (s : LegPlan V D) (n : ℕ) (x : LogLine V) (after : Position) (ahead : List (Line V)) → leg_plan_at plan d.at ≡ Some s → n < length d.logs →
    AreLogLists s.count (lists_at d.logs n) → MayStand s n x (lists_at d.logs n) →
    (block_of (block_lists_after s.leg.book d n x after) ≡ block_after plan (block_of d) (log_line n x) after ahead) × AreLogLists s.count (lists_after_line s.leg.book n x (lists_at d.logs n))
