-- A traced run as a list of lines: its form, and the logs that its lines give.
use Rattle.std.specs.Prelude.{◌≡◌, ◌≤◌, ◌<◌, ℕ, suc, Bool, true, false, ◌&&◌, leb, ltb, ◌==◌, List, [], ◌∷◌, length, slice_get, is_some, option_and_then, if◌then◌else◌}
use Rattle.std.specs.List.{list_all, AllZip}
use Rattle.std.proofs.Common.{Option, Some, None}
use Rattle.propagation.specs.Lists.{Has}
use Rattle.propagation.specs.History.{definition_at, now, CentralAt}
use Rattle.propagation.specs.Stamps.{keys}
use Rattle.propagation.specs.Logs.{Frame, Entry, Leg}
use Rattle.propagation.specs.Logs.Entry.{Did, Took, Computed, Sent}
use Rattle.propagation.specs.Rules.{Accepted}

-- ---- what a run is judged by

-- A leg of the document: its history, how many services are declared by its end, which are the numbers below that, and each one's settled value.
pub record LegPlan (V D : Type 0) : Type 0 where
  pub leg : Leg V D
  pub count : ℕ
  pub value : ℕ → V

-- the legs in order, and which values are of a service's type
pub record RunPlan (V D : Type 0) : Type 0 where
  pub legs : List (LegPlan V D)
  pub has_type : ℕ → V → Bool

-- What an accepted document gives of a leg: it is accepted, the services are declared by its end, each settled value is central, and
-- each definition gives a value of its service's type.
pub record IsLegPlan {V D : Type 0} (has_type : ℕ → V → Bool) (s : LegPlan V D) : Type 0 where
  pub rank : ℕ → ℕ
  pub accepted : Accepted s.leg rank
  pub unborn : (n : ℕ) → s.count ≤ n → now s.leg.book n ≡ 0
  pub central : (n : ℕ) → n < s.count → CentralAt s.leg.book (now s.leg.book) n (s.value n)
  pub typed : (n c : ℕ) (d : D) (vs : List V) → definition_at s.leg.book n c ≡ Some d → AllZip (λ p v. has_type p v ≡ true) (s.leg.book.dependencies d) vs → has_type n (s.leg.book.meaning d vs) ≡ true

-- each leg of the plan is such a one
abbrev pub IsRunPlan : {V D : Type 0} → RunPlan V D → Type 0
IsRunPlan {V} {D} plan = (s : LegPlan V D) → Has plan.legs s → IsLegPlan plan.has_type s

-- ---- lines

-- what a log line says: an entry, or that bytes were taken or sent that are no frame
pub data LogLine (V : Type 0) : Type 0 where
  entry : Entry V → LogLine V
  took_bytes : ℕ → LogLine V  -- from whom
  sent_bytes : ℕ → LogLine V  -- to whom

-- One line. Of the services that the printed names name there are the numbers.
pub data Line (V : Type 0) : Type 0 where
  passed_line : Line V  -- a line that is passed over
  log_line : ℕ → LogLine V → Line V  -- a line of this service's log
  settle_line : ℕ → Line V  -- a settle line with its number
  value_line : ℕ → V → Line V  -- a value line of this service
  other_line : Line V  -- any other line, and a last one that does not end

-- ---- the form of a run

-- whether all services that the line names are among the first `count`
abbrev pub names_below : {V : Type 0} → ℕ → LogLine V → Bool
names_below count (entry (Did c)) = true
names_below count (entry (Took s f)) = ltb s count
names_below count (entry (Computed v S picks)) = list_all (λ q. ltb q count) (keys S)
names_below count (entry (Sent r f)) = ltb r count
names_below count (took_bytes s) = ltb s count
names_below count (sent_bytes r) = ltb r count

-- What the next line may be: in the block of this leg a log line of this service or a later one, or its settle line; or the value line of
-- this service. Legs are counted from 0.
pub data Position : Type 0 where
  in_logs : ℕ → ℕ → Position  -- the leg and the service
  in_values : ℕ → ℕ → Position  -- the leg and the service

-- how many services are declared by the end of this leg, which may be missing
abbrev pub count_of : {V D : Type 0} → Option (LegPlan V D) → ℕ
count_of None = 0
count_of (Some s) = s.count

-- the leg of this number
abbrev pub leg_plan : {V D : Type 0} → RunPlan V D → ℕ → Option (LegPlan V D)
leg_plan plan k = slice_get plan.legs k

-- the value lines of the leg from this service on; behind the last one the next leg's block begins
abbrev pub values_position : ℕ → ℕ → ℕ → Position
values_position count k next = if next == count then in_logs (suc k) 0 else in_values k next

-- the position after this line
abbrev pub next_position : {V D : Type 0} → RunPlan V D → Position → Line V → Option Position
next_position plan s passed_line = Some s
next_position plan (in_logs k least) (log_line n x) =
    if leb least n && (ltb n (count_of (leg_plan plan k)) && names_below (count_of (leg_plan plan k)) x) then Some (in_logs k n) else None
next_position plan (in_logs k least) (settle_line j) = if (j == suc k) && is_some (leg_plan plan k) then Some (values_position (count_of (leg_plan plan k)) k 0) else None
next_position plan (in_values k next) (value_line n v) = if n == next then Some (values_position (count_of (leg_plan plan k)) k (suc next)) else None
next_position plan s x = None

-- the position after these lines, which stand newest first
abbrev pub position_after : {V D : Type 0} → RunPlan V D → List (Line V) → Option Position
position_after plan [] = Some (in_logs 0 0)
position_after plan (x ∷ past) = option_and_then (λ s. next_position plan s x) (position_after plan past)

-- these lines begin a run
abbrev pub Begins : {V D : Type 0} → RunPlan V D → List (Line V) → Type 0
Begins plan past = (s : Position) × (position_after plan past ≡ Some s)

-- they are a whole one
abbrev pub IsWhole : {V D : Type 0} → RunPlan V D → List (Line V) → Type 0
IsWhole plan past = (least : ℕ) × (position_after plan past ≡ Some (in_logs (length plan.legs) least))

-- ---- what the lines give, newest first

-- how many blocks have had their settle line
abbrev pub blocks : {V : Type 0} → List (Line V) → ℕ
blocks [] = 0
blocks (settle_line k ∷ past) = suc (blocks past)
blocks (x ∷ past) = blocks past

-- what the log of n says in the block that stands open
abbrev pub log_lines : {V : Type 0} → ℕ → List (Line V) → List (LogLine V)
log_lines n [] = []
log_lines n (passed_line ∷ past) = log_lines n past
log_lines n (log_line m x ∷ past) = if m == n then x ∷ log_lines n past else log_lines n past
log_lines n (settle_line k ∷ past) = []
log_lines n (value_line m v ∷ past) = []
log_lines n (other_line ∷ past) = log_lines n past

-- its entries
abbrev pub entries : {V : Type 0} → List (LogLine V) → List (Entry V)
entries [] = []
entries (entry x ∷ before) = x ∷ entries before
entries (x ∷ before) = entries before

-- the logs of the block that stands open
abbrev pub family : {V : Type 0} → List (Line V) → ℕ → List (Entry V)
family past n = entries (log_lines n past)

-- what is sent to q: frames, and bytes that are none
abbrev pub frames_given : {V : Type 0} → ℕ → List (LogLine V) → List (Option (Frame V))
frames_given q [] = []
frames_given q (entry (Sent r f) ∷ before) = if r == q then Some f ∷ frames_given q before else frames_given q before
frames_given q (sent_bytes r ∷ before) = if r == q then None ∷ frames_given q before else frames_given q before
frames_given q (x ∷ before) = frames_given q before

-- how often the log takes from p
abbrev pub count_taken : {V : Type 0} → ℕ → List (LogLine V) → ℕ
count_taken p [] = 0
count_taken p (entry (Took s f) ∷ before) = if s == p then suc (count_taken p before) else count_taken p before
count_taken p (took_bytes s ∷ before) = if s == p then suc (count_taken p before) else count_taken p before
count_taken p (x ∷ before) = count_taken p before

-- the lines up to the end of the block that stands open, or of the form
abbrev pub block_end : {V D : Type 0} → RunPlan V D → List (Line V) → List (Line V) → List (Line V)
block_end plan past [] = past
block_end plan past (settle_line k ∷ ahead) = past
block_end plan past (x ∷ ahead) = if is_some (position_after plan (x ∷ past)) then block_end plan (x ∷ past) ahead else past

-- the service whose log line stands last
abbrev pub last_log : {V : Type 0} → List (Line V) → Option ℕ
last_log [] = None
last_log (passed_line ∷ past) = last_log past
last_log (log_line n x ∷ past) = Some n
last_log (x ∷ past) = None

-- all bytes of these log lines are frames
abbrev pub all_frames : {V : Type 0} → List (LogLine V) → Bool
all_frames [] = true
all_frames (entry x ∷ before) = all_frames before
all_frames (x ∷ before) = false

-- how many lines are computations
abbrev pub computed_lines : {V : Type 0} → List (Line V) → ℕ
computed_lines [] = 0
computed_lines (log_line n (entry (Computed v S picks)) ∷ lines) = suc (computed_lines lines)
computed_lines (x ∷ lines) = computed_lines lines
