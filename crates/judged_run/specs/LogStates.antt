-- What a judge keeps of one log while it reads it, so that no rule looks back into the log.
use Rattle.std.specs.Prelude.{ℕ, suc, Bool, true, false, not, ◌&&◌, ◌||◌, leb, ltb, max, ◌==◌, List, [], ◌∷◌, ◌++◌, map, filter, length, slice_get, is_some, option_and_then, if◌then◌else◌}
use Rattle.std.proofs.Common.{Option, Some, None, unwrap_or, reverse}
use Rattle.std.specs.List.{list_all}
use Rattle.propagation.specs.Lists.{as_list, is_among, latest}
use Rattle.propagation.specs.History.{Book, definition_at, deps, edge, now}
use Rattle.propagation.specs.Stamps.{Stamps, clock_of, clocked, with_clocks}
use Rattle.propagation.specs.Logs.{Emission, Frame, Entry, Leg, Carry, all_of, member, rewire, reply, tell}
use Rattle.propagation.specs.Logs.Frame.{Subscribe, Unsubscribe, Sources, Changed}
use Rattle.propagation.specs.Logs.Entry.{Did, Took, Computed, Sent}
use Rattle.propagation.specs.Notes.{floor}
use Rattle.propagation.specs.Deciding.{implies, if_any, some_and, each_below, each_key, same_frame, option_cons, all_agree, is_union, is_meant, same_work}
use Rattle.judged_run.specs.Texts.{LogLine}
use Rattle.judged_run.specs.Texts.LogLine.{entry, took_bytes, sent_bytes}
use Rattle.judged_run.specs.LineRules.{Rule}
use Rattle.judged_run.specs.LineRules.Rule.{J2, J3, J4, J5, J6, J7}
use Rattle.judged_run.specs.Verdicts.{all_typed}

-- ---- the state of a log

-- Of the log of one service: its clock and its edges; of each sender under each epoch the stamps told, those of the last value, and the emissions
-- that came, and how many frames were taken; the epochs under which each other service reads it, and under each the stamps told and those of the
-- last value; the greatest clocks and the last of its emissions; its last work; and the frames still due to each other service, the next one first.
pub record LogState (V : Type 0) : Type 0 where
  pub clock : ℕ
  pub edges : ℕ → Option ℕ
  pub heard : ℕ → ℕ → Stamps
  pub heard_last : ℕ → ℕ → Stamps
  pub came : ℕ → ℕ → List (Emission V)
  pub took : ℕ → ℕ
  pub readers : ℕ → List ℕ
  pub told_to : ℕ → ℕ → Stamps
  pub told_last : ℕ → ℕ → Stamps
  pub top : ℕ → ℕ
  pub last : Option (Emission V)
  pub work : ℕ × List ℕ
  pub due : ℕ → List (Frame V)

-- the state before the log
abbrev pub state_before : {V D : Type 0} → Leg V D → ℕ → LogState V
state_before g n =
    record {
      clock = g.start n;
      edges = λ p. edge g.book n p (g.start n);
      heard = g.hears n;
      heard_last = g.hears n;
      came = λ p e. [];
      took = λ p. 0;
      readers = λ q. as_list (g.read_by n q);
      told_to = g.tells n;
      told_last = g.tells n;
      top = floor (as_list (g.opened n));
      last = g.opened n;
      work = (g.start n, map (λ p. 0) (deps g.book n (g.start n)));
      due = λ q. [];
    }

-- ---- one frame more

-- the stamps told under the epoch e: the keys announced last, each with its clock; `last` are the stamps of the value before
abbrev pub told_after : {V : Type 0} → Frame V → ℕ → Stamps → Stamps → Stamps
told_after (Sources i ks) e last S = if i == e then clocked ks last else S
told_after (Changed i v pairs) e last S = if i == e then with_clocks 0 pairs S else S
told_after f e last S = S

-- the stamps of the last value under it
abbrev pub last_after : {V : Type 0} → Frame V → ℕ → Stamps → Stamps → Stamps
last_after (Changed i v pairs) e last S = if i == e then with_clocks 0 pairs S else last
last_after f e last S = last

-- the emissions that came under it
abbrev pub came_after : {V : Type 0} → Frame V → ℕ → Stamps → List (Emission V) → List (Emission V)
came_after (Changed i v pairs) e S ms = if i == e then record { value = v; stamps = with_clocks 0 pairs S } ∷ ms else ms
came_after f e S ms = ms

-- the epochs under which its sender reads
abbrev pub epochs_after : {V : Type 0} → Frame V → List ℕ → List ℕ
epochs_after (Subscribe e) es = if is_among es e then es else e ∷ es
epochs_after (Unsubscribe e) es = filter (λ i. not (i == e)) es
epochs_after f es = es

-- ---- one entry more

-- the edges after a change to the clock c + 1
abbrev pub edge_after_change : {V D : Type 0} → Book V D → ℕ → ℕ → ℕ → Option ℕ → Option ℕ
edge_after_change b n p c old = if is_among (deps b n (suc c)) p then Some (unwrap_or old (suc c)) else None

-- the frames that tell an emission under these epochs, the last one first
abbrev pub news_frames : {V : Type 0} → (ℕ → Stamps) → List ℕ → Emission V → List (Frame V)
news_frames told [] m = []
news_frames told (e ∷ es) m = tell e (told e) m ++ news_frames told es m

-- all but the first
abbrev pub all_but_first : {A : Type 0} → List A → List A
all_but_first [] = []
all_but_first (x ∷ xs) = xs

-- the state after the entry
abbrev pub after_entry : {V D : Type 0} → Leg V D → ℕ → Entry V → LogState V → LogState V
after_entry g n (Did c) t =
    record t {
      clock = suc t.clock;
      edges = λ p. edge_after_change g.book n p t.clock (t.edges p);
      due = λ q. reverse (rewire (t.edges q) (edge_after_change g.book n q t.clock (t.edges q)));
    }
after_entry g n (Took s f) t =
    record t {
      heard = λ p e. if s == p then told_after f e (t.heard_last p e) (t.heard p e) else t.heard p e;
      heard_last = λ p e. if s == p then last_after f e (t.heard_last p e) (t.heard p e) else t.heard_last p e;
      came = λ p e. if s == p then came_after f e (t.heard p e) (t.came p e) else t.came p e;
      took = λ p. if s == p then suc (t.took p) else t.took p;
      readers = λ q. if s == q then epochs_after f (t.readers q) else t.readers q;
      due = λ q. if s == q then reverse (reply f t.last) else [];
    }
after_entry g n (Computed v S picks) t =
    record t {
      top = λ q. max (clock_of S q) (t.top q);
      last = Some (record { value = v; stamps = S });
      work = (t.clock, picks);
      due = λ q. reverse (news_frames (t.told_to q) (t.readers q) (record { value = v; stamps = S }));
    }
after_entry g n (Sent r f) t =
    record t {
      told_to = λ q e. if r == q then told_after f e (t.told_last q e) (t.told_to q e) else t.told_to q e;
      told_last = λ q e. if r == q then last_after f e (t.told_last q e) (t.told_to q e) else t.told_last q e;
      due = λ q. if r == q then all_but_first (t.due q) else t.due q;
    }

-- the state after what the log says
abbrev pub after_log_line : {V D : Type 0} → Leg V D → ℕ → LogLine V → LogState V → LogState V
after_log_line g n (entry x) t = after_entry g n x t
after_log_line g n x t = t

-- ---- the tests of a log line

-- what is carried over this edge, if it is there
abbrev pub carry_over : {V : Type 0} → (ℕ → Option (Emission V)) → (ℕ → List (Emission V)) → Option ℕ → Carry V
carry_over holds came None = record { first = None; came = [] }
carry_over holds came (Some e) = record { first = holds e; came = came e }

-- what is carried over the present edge from p
abbrev pub carried_from : {V D : Type 0} → Leg V D → ℕ → LogState V → ℕ → Carry V
carried_from g n t p = carry_over (g.holds n p) (t.came p) (t.edges p)

-- the picked emissions, if all are there
abbrev pub picked_from : {V : Type 0} → (ℕ → Carry V) → List ℕ → List ℕ → Option (List (Emission V))
picked_from carry [] [] = Some []
picked_from carry [] (k ∷ ks) = None
picked_from carry (p ∷ ps) [] = None
picked_from carry (p ∷ ps) (k ∷ ks) = option_cons (member (carry p) k) (picked_from carry ps ks)

-- the picked emissions, if they agree
abbrev pub agreed_from : {V D : Type 0} → Leg V D → ℕ → LogState V → List ℕ → Option (List (Emission V))
agreed_from g n t picks = option_and_then (λ ms. if all_agree ms then Some ms else None) (picked_from (carried_from g n t) (deps g.book n t.clock) picks)

-- whether the list is empty
abbrev pub is_empty : {A : Type 0} → List A → Bool
is_empty [] = true
is_empty (x ∷ xs) = false

-- no asked frame is missing to the first services
abbrev pub none_is_due : {V : Type 0} → ℕ → LogState V → Bool
none_is_due count t = each_below (λ q. is_empty (t.due q)) count

-- the frame is the next one due
abbrev pub is_next_due : {V : Type 0} → (V → V → Bool) → Frame V → List (Frame V) → Bool
is_next_due same f [] = false
is_next_due same f (h ∷ hs) = same_frame same f h

-- a taken frame leaves no announced key without a clock
abbrev pub all_have_clocks : {V : Type 0} → (ℕ → Stamps) → Frame V → Bool
all_have_clocks heard (Changed e v pairs) = list_all (λ x. ltb 0 x.1) (with_clocks 0 pairs (heard e))
all_have_clocks heard f = true

-- what n's log says keeps the rule; `given p` is what p sends to n in the block, the first one first
abbrev pub log_line_test : {V D : Type 0} → (V → V → Bool) → ℕ → (ℕ → V → Bool) → Leg V D → (ℕ → List (Option (Frame V))) → ℕ → Rule → LogLine V → LogState V → Bool
log_line_test same count has_type g given n J2 (entry (Did c)) t = (c == suc t.clock) && leb c (now g.book n)
log_line_test same count has_type g given n J3 (entry (Took p f)) t = some_and (λ o. some_and (λ h. same_frame same h f) o) (slice_get (given p) (t.took p)) && all_have_clocks (t.heard p) f
log_line_test same count has_type g given n J3 (took_bytes p) t = false
log_line_test same count has_type g given n J4 (entry (Sent q f)) t = is_next_due same f (t.due q)
log_line_test same count has_type g given n J4 (sent_bytes q) t = false
log_line_test same count has_type g given n J4 x t = none_is_due count t
log_line_test same count has_type g given n J5 (entry (Computed v S picks)) t =
    is_some (agreed_from g n t picks) && (each_key S (λ q. leb (t.top q) (clock_of S q)) && ((t.clock == 0) || not (same_work t.work (t.clock, picks))))
log_line_test same count has_type g given n J6 (entry (Computed v S picks)) t = if_any (λ ms. is_union n t.clock S ms && is_some (definition_at g.book n t.clock)) (agreed_from g n t picks)
log_line_test same count has_type g given n J7 (entry (Computed v S picks)) t =
    if_any (λ ms. if_any (λ d. is_meant same g d v ms) (definition_at g.book n t.clock)) (agreed_from g n t picks)
    && if_any (λ ms. all_typed has_type (deps g.book n t.clock) (map (λ m. m.value) ms)) (agreed_from g n t picks)
log_line_test same count has_type g given n rule x t = true

-- ---- rest

-- the last emissions over the edges of these services, if each has one
abbrev pub last_of_each : {V : Type 0} → (ℕ → Carry V) → List ℕ → Option (List (Emission V))
last_of_each carry [] = Some []
last_of_each carry (p ∷ ps) = option_cons (latest (all_of (carry p))) (last_of_each carry ps)

-- all that came over these edges
abbrev pub all_carried : {V : Type 0} → (ℕ → Carry V) → List ℕ → List (Emission V)
all_carried carry [] = []
all_carried carry (p ∷ ps) = all_of (carry p) ++ all_carried carry ps

-- n may compute from them: they agree and are on no key below the greatest clock of what came or was emitted
abbrev pub is_ready_from : {V D : Type 0} → Leg V D → ℕ → LogState V → List ℕ → Bool
is_ready_from g n t ps =
    some_and (λ ms. all_agree ms && list_all (λ m. each_key m.stamps (λ q. leb (floor (all_carried (carried_from g n t) ps) q) (clock_of m.stamps q) && leb (t.top q) (clock_of m.stamps q))) ms)
    (last_of_each (carried_from g n t) ps)

-- if it may, it made its last computation from just these
abbrev pub rests_from : {V D : Type 0} → Leg V D → ℕ → LogState V → Bool
rests_from g n t =
    implies (is_ready_from g n t (deps g.book n t.clock)) (same_work t.work (now g.book n, map (λ p. length (carried_from g n t p).came) (deps g.book n (now g.book n))))

-- the first services have taken all, done all and rest
abbrev pub is_quiet_from : {V D : Type 0} → ℕ → Leg V D → (ℕ → ℕ → List (Option (Frame V))) → (ℕ → LogState V) → Bool
is_quiet_from count g given states =
    each_below (λ n. each_below (λ p. (states n).took p == length (given p n)) count && (((states n).clock == now g.book n) && implies (ltb 0 (now g.book n)) (rests_from g n (states n)))) count
