-- What a service keeps of its neighbours, seen from a whole network in which each keeps the rules.
use Rattle.std.specs.Prelude.{◌≡◌, ℕ, true, List, ◌≤◌, ◌⊎◌, length}
use Rattle.std.proofs.Common.{Some, None}
use Rattle.propagation.specs.Lists.{Has}
use Rattle.propagation.specs.History.{edge}
use Rattle.propagation.specs.Stamps.{Stamps, clock_of}
use Rattle.propagation.specs.Logs.{Entry, Leg, frames_taken, told}
use Rattle.propagation.specs.Logs.Frame.{Subscribe}
use Rattle.propagation.specs.Rules.{announced, has_value_since}
use Rattle.service_machine.specs.States.{Slot, slot_at}

-- the keys of a slot, announced under this epoch
pub record Announced {V D : Type 0} (g : Leg V D) (n : ℕ) (log : List (Entry V)) (p e : ℕ) (s : Slot V) : Type 0 where
  pub keys : List ℕ
  pub are : s.announced ≡ Some (e, keys)
  pub as_many : length keys ≡ length (told (g.hears n p e) e (frames_taken p log))
  pub clocked : has_value_since (edge g.book n p (g.start n)) (frames_taken p log) ≡ true → (S : Stamps) × (s.carried ≡ Some S)

-- each slot has the epoch that was announced last in the leg, or one of before; and no reader had an epoch that it never sent
pub record Coupled {V D : Type 0} (g : Leg V D) (n : ℕ) (slots : List (Slot V)) (past : List (ℕ × ℕ)) (log : List (Entry V)) : Type 0 where
  pub some : (p e : ℕ) → announced (edge g.book n p (g.start n)) (frames_taken p log) ≡ Some e → Announced g n log p e (slot_at slots p)
  pub none : (p : ℕ) → announced (edge g.book n p (g.start n)) (frames_taken p log) ≡ None → (a : ℕ × List ℕ) → (slot_at slots p).announced ≡ Some a → a.0 ≤ g.start n
  pub reached : (q : ℕ) → (clock_of past q ≤ g.start q) ⊎ Has (frames_taken q log) (Subscribe (clock_of past q))
