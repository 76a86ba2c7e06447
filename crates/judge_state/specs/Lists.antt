-- The state that a judge keeps of one log, as lists: what the code holds. Rows stand in any order; lists of what happened stand oldest first.
use Rattle.std.specs.Prelude.{ℕ, suc, not, ◌&&◌, ◌==◌, List, [], ◌∷◌, ◌++◌, map, filter, is_some, set, slice_index_or, if◌then◌else◌}
use Rattle.std.proofs.Common.{Option, Some, reverse}
use Rattle.propagation.specs.Lists.{is_among}
use Rattle.propagation.specs.History.{Book, deps}
use Rattle.propagation.specs.Stamps.{Stamps, clock_of, clocked, with_clocks}
use Rattle.propagation.specs.Logs.{Emission, Frame, Entry, reply, tell}
use Rattle.propagation.specs.Logs.Frame.{Subscribe, Unsubscribe, Sources, Changed}
use Rattle.propagation.specs.Logs.Entry.{Did, Took, Computed, Sent}
use Rattle.service_machine.specs.States.{epoch_in, edges_to, raise}
use Rattle.judged_run.specs.LogStates.{LogState}

-- what was told to or by a peer under an epoch: the keys announced last, each with its clock, and the stamps of the last value
pub record Announced : Type 0 where
  pub peer : ℕ
  pub epoch : ℕ
  pub stamps : Stamps
  pub last : Stamps

-- the emissions that came from a sender under an epoch, oldest first
pub record Came (V : Type 0) : Type 0 where
  pub sender : ℕ
  pub epoch : ℕ
  pub emissions : List (Emission V)

-- What is kept of one log: the clock, and the edges in order; what was heard, what came, and how many frames were taken from each service; the
-- readers in the order of their Subscribes, and what they were told; the greatest clocks and the last emission; the last work; and the frames that
-- are due, each with its receiver.
pub record LogLists (V : Type 0) : Type 0 where
  pub clock : ℕ
  pub edges : List (ℕ × ℕ)
  pub heard : List Announced
  pub came : List (Came V)
  pub took : List ℕ
  pub readers : List (ℕ × ℕ)
  pub told : List Announced
  pub top : Stamps
  pub last : Option (Emission V)
  pub work : ℕ × List ℕ
  pub due : List (ℕ × Frame V)

-- ---- rows

-- what was told under the epoch, and the stamps of the last value
abbrev pub announced_at : List Announced → ℕ → ℕ → Stamps × Stamps
announced_at [] p e = ([], [])
announced_at (a ∷ rest) p e = if (a.peer == p) && (a.epoch == e) then (a.stamps, a.last) else announced_at rest p e

-- the rows with this one in place of the one of its peer and epoch, or at the end
abbrev pub with_announced : Announced → List Announced → List Announced
with_announced x [] = x ∷ []
with_announced x (a ∷ rest) = if (a.peer == x.peer) && (a.epoch == x.epoch) then x ∷ rest else a ∷ with_announced x rest

-- what came from p under e
abbrev pub came_at : {V : Type 0} → List (Came V) → ℕ → ℕ → List (Emission V)
came_at [] p e = []
came_at (c ∷ rest) p e = if (c.sender == p) && (c.epoch == e) then c.emissions else came_at rest p e

-- the rows with this one in place of the one of its sender and epoch, or at the end
abbrev pub with_came : {V : Type 0} → Came V → List (Came V) → List (Came V)
with_came x [] = x ∷ []
with_came x (c ∷ rest) = if (c.sender == x.sender) && (c.epoch == x.epoch) then x ∷ rest else c ∷ with_came x rest

-- the epochs under which q reads, the last one subscribed first
abbrev pub epochs_of : List (ℕ × ℕ) → ℕ → List ℕ
epochs_of [] q = []
epochs_of (r ∷ rest) q = epochs_of rest q ++ (if r.0 == q then r.1 ∷ [] else [])

-- the frames due for q, the next one first
abbrev pub due_to : {V : Type 0} → List (ℕ × Frame V) → ℕ → List (Frame V)
due_to [] q = []
due_to (x ∷ rest) q = if x.0 == q then x.1 ∷ due_to rest q else due_to rest q

-- without the next one for r
abbrev pub without_next : {V : Type 0} → ℕ → List (ℕ × Frame V) → List (ℕ × Frame V)
without_next r [] = []
without_next r (x ∷ rest) = if x.0 == r then rest else x ∷ without_next r rest

-- frames for one receiver
abbrev pub all_to : {V : Type 0} → ℕ → List (Frame V) → List (ℕ × Frame V)
all_to q fs = map (λ f. (q, f)) fs

-- ---- the state

-- the state that the lists say
abbrev pub state_of : {V : Type 0} → LogLists V → LogState V
state_of t =
    record {
      clock = t.clock;
      edges = epoch_in t.edges;
      heard = λ p e. (announced_at t.heard p e).0;
      heard_last = λ p e. (announced_at t.heard p e).1;
      came = λ p e. reverse (came_at t.came p e);
      took = λ p. slice_index_or t.took p 0;
      readers = epochs_of t.readers;
      told_to = λ q e. (announced_at t.told q e).0;
      told_last = λ q e. (announced_at t.told q e).1;
      top = clock_of t.top;
      last = t.last;
      work = t.work;
      due = due_to t.due;
    }

-- ---- one entry more

-- the rows after a frame from or to p
abbrev pub announced_after : {V : Type 0} → ℕ → Frame V → List Announced → List Announced
announced_after p (Sources e ks) rows =
    with_announced (record { peer = p; epoch = e; stamps = clocked ks (announced_at rows p e).1; last = (announced_at rows p e).1 }) rows
announced_after p (Changed e v pairs) rows =
    with_announced (record { peer = p; epoch = e; stamps = with_clocks 0 pairs (announced_at rows p e).0; last = with_clocks 0 pairs (announced_at rows p e).0 }) rows
announced_after p f rows = rows

-- what came, after a frame from s; `heard` is what was heard before it
abbrev pub came_rows_after : {V : Type 0} → ℕ → Frame V → List Announced → List (Came V) → List (Came V)
came_rows_after s (Changed e v pairs) heard rows =
    with_came (record { sender = s; epoch = e; emissions = came_at rows s e ++ record { value = v; stamps = with_clocks 0 pairs (announced_at heard s e).0 } ∷ [] }) rows
came_rows_after s f heard rows = rows

-- among the readers
abbrev pub readers_after : {V : Type 0} → ℕ → Frame V → List (ℕ × ℕ) → List (ℕ × ℕ)
readers_after s (Subscribe e) readers = if is_among (epochs_of readers s) e then readers else readers ++ (s, e) ∷ []
readers_after s (Unsubscribe e) readers = filter (λ r. not ((r.0 == s) && (r.1 == e))) readers
readers_after s f readers = readers

-- Unsubscribe to each dependency that went, in the old order
abbrev pub unsubscribes : {V : Type 0} → List ℕ → List (ℕ × ℕ) → List (ℕ × Frame V)
unsubscribes now_deps [] = []
unsubscribes now_deps (x ∷ rest) = if is_among now_deps x.0 then unsubscribes now_deps rest else (x.0, Unsubscribe x.1) ∷ unsubscribes now_deps rest

-- and Subscribe to each that came, in the new order
abbrev pub subscribes : {V : Type 0} → ℕ → List (ℕ × ℕ) → List ℕ → List (ℕ × Frame V)
subscribes c edges [] = []
subscribes c edges (p ∷ ps) = if is_some (epoch_in edges p) then subscribes c edges ps else (p, Subscribe c) ∷ subscribes c edges ps

-- what each reader is told of an emission
abbrev pub reports : {V : Type 0} → List Announced → Emission V → List (ℕ × ℕ) → List (ℕ × Frame V)
reports told m [] = []
reports told m (r ∷ rest) = all_to r.0 (reverse (tell r.1 (announced_at told r.0 r.1).0 m)) ++ reports told m rest

-- after the entry
abbrev pub lists_after : {V D : Type 0} → Book V D → ℕ → Entry V → LogLists V → LogLists V
lists_after b n (Did c) t =
    record t {
      clock = suc t.clock;
      edges = edges_to t.edges (suc t.clock) (deps b n (suc t.clock));
      due = unsubscribes (deps b n (suc t.clock)) t.edges ++ subscribes (suc t.clock) t.edges (deps b n (suc t.clock));
    }
lists_after b n (Took s f) t =
    record t {
      heard = announced_after s f t.heard;
      came = came_rows_after s f t.heard t.came;
      took = set t.took s (suc (slice_index_or t.took s 0));
      readers = readers_after s f t.readers;
      due = all_to s (reverse (reply f t.last));
    }
lists_after b n (Computed v S picks) t =
    record t {
      top = raise t.top S;
      last = Some (record { value = v; stamps = S });
      work = (t.clock, picks);
      due = reports t.told (record { value = v; stamps = S }) t.readers;
    }
lists_after b n (Sent r f) t = record t { told = announced_after r f t.told; due = without_next r t.due }
