-- The state as lists goes on as the state does.
use Rattle.std.specs.Prelude.{◌≡◌, ◌<◌, ℕ, suc, List, map, length}
use Rattle.propagation.specs.Lists.{Has, AreDistinct}
use Rattle.propagation.specs.History.{deps}
use Rattle.propagation.specs.Stamps.{IsRising}
use Rattle.propagation.specs.Logs.{Entry, Leg}
use Rattle.propagation.specs.Logs.Entry.{Did, Took, Computed, Sent}
use Rattle.judged_run.specs.LogStates.{after_entry, is_empty, none_is_due}
use Rattle.judge_state.specs.Lists.{LogLists, state_of, lists_after}

-- these services are among the first
abbrev pub AllBelow : ℕ → List ℕ → Type 0
AllBelow count qs = (q : ℕ) → Has qs q → q < count

-- What holds of the lists of a log: no edge stands twice, a count for each of so many services, the greatest clocks as stamps, and they name
-- only these services.
pub record AreLogLists {V : Type 0} (count : ℕ) (t : LogLists V) : Type 0 where
  pub apart : AreDistinct (map (λ x. x.0) t.edges)
  pub counts : length t.took ≡ count
  pub rising : IsRising 0 t.top
  pub edges_below : AllBelow count (map (λ x. x.0) t.edges)
  pub readers_below : AllBelow count (map (λ x. x.0) t.readers)
  pub due_below : AllBelow count (map (λ x. x.0) t.due)

-- what the entry must be: it names declared services, its stamps rise, and no definition names a service twice
abbrev pub MayFollow : {V D : Type 0} → Leg V D → ℕ → ℕ → Entry V → LogLists V → Type 0
MayFollow g n count (Did c) t = AreDistinct (deps g.book n (suc t.clock)) × AllBelow count (deps g.book n (suc t.clock))
MayFollow g n count (Took s f) t = s < count
MayFollow g n count (Computed v S picks) t = IsRising 0 S
MayFollow g n count (Sent r f) t = Unit {0}

-- The lists after an entry say what the state after it is.
abbrev pub LogListsGoOn : Type 0 → Type 0 → Type 0
LogListsGoOn V D =
    (g : Leg V D) (n count : ℕ) (x : Entry V) (t : LogLists V) → AreLogLists count t → MayFollow g n count x t →
    (state_of (lists_after g.book n x t) ≡ after_entry g n x (state_of t)) × AreLogLists count (lists_after g.book n x t)

-- Whether a frame is due is seen from one list.
abbrev pub DueIsOneList : Type 0 → Type 0
DueIsOneList V = (count : ℕ) (t : LogLists V) → AreLogLists count t → none_is_due count (state_of t) ≡ is_empty t.due
