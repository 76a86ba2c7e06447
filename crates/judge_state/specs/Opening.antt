-- The lists of a service before a leg.
use Rattle.std.specs.Prelude.{◌≡◌, ℕ, List, [], ◌∷◌, map, replicate}
use Rattle.std.proofs.Common.{Option, Some, None}
use Rattle.propagation.specs.Lists.{AreDistinct, as_list}
use Rattle.propagation.specs.History.{deps, edge}
use Rattle.propagation.specs.Logs.{Emission, Leg, stamps_of}
use Rattle.propagation.specs.Rules.{Opening}
use Rattle.service_machine.specs.States.{epoch_in}
use Rattle.judged_run.specs.LogStates.{state_before}
use Rattle.judge_state.specs.Lists.{Announced, LogLists, epochs_of, state_of}
use Rattle.judge_state.specs.Laws.{AllBelow, AreLogLists}

-- over each of these links the peer's last emission was told
abbrev pub announced_row : {V : Type 0} → ℕ → ℕ → Option (Emission V) → List Announced → List Announced
announced_row p e None rows = rows
announced_row p e (Some m) rows = record { peer = p; epoch = e; stamps = m.stamps; last = m.stamps } ∷ rows

-- what is heard when the leg begins, by the edges
abbrev pub heard_rows : {V : Type 0} → (ℕ → Option (Emission V)) → List (ℕ × ℕ) → List Announced
heard_rows opened [] = []
heard_rows opened (x ∷ edges) = announced_row x.0 x.1 (opened x.0) (heard_rows opened edges)

-- and what is told, by the readers
abbrev pub told_rows : {V : Type 0} → Option (Emission V) → List (ℕ × ℕ) → List Announced
told_rows None readers = []
told_rows (Some m) readers = map (λ r. record { peer = r.0; epoch = r.1; stamps = m.stamps; last = m.stamps }) readers

-- the lists of a service when the leg begins, by its edges and readers and the last emissions
abbrev pub first_lists : {V D : Type 0} → Leg V D → ℕ → ℕ → List (ℕ × ℕ) → List (ℕ × ℕ) → LogLists V
first_lists g n count edges readers =
    record {
      clock = g.start n;
      edges = edges;
      heard = heard_rows g.opened edges;
      came = [];
      took = replicate count 0;
      readers = readers;
      told = told_rows (g.opened n) readers;
      top = stamps_of (g.opened n);
      last = g.opened n;
      work = (g.start n, map (λ p. 0) (deps g.book n (g.start n)));
      due = [];
    }

-- these are its edges and its readers when the leg begins
pub record AreLinks {V D : Type 0} (g : Leg V D) (n count : ℕ) (edges readers : List (ℕ × ℕ)) : Type 0 where
  pub edges_are : (p : ℕ) → epoch_in edges p ≡ edge g.book n p (g.start n)
  pub readers_are : (q : ℕ) → epochs_of readers q ≡ as_list (edge g.book q n (g.start q))
  pub apart : AreDistinct (map (λ x. x.0) edges)
  pub edges_below : AllBelow count (map (λ x. x.0) edges)
  pub readers_below : AllBelow count (map (λ x. x.0) readers)

-- The lists before a leg say what the state before it is.
abbrev pub LogListsBegin : Type 0 → Type 0 → Type 0
LogListsBegin V D =
    (g : Leg V D) (n count : ℕ) (edges readers : List (ℕ × ℕ)) → Opening g → AreLinks g n count edges readers →
    (state_of (first_lists g n count edges readers) ≡ state_before g n) × AreLogLists count (first_lists g n count edges readers)
