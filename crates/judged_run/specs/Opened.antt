-- The leg that a history opens, without any run.
use Rattle.std.specs.Prelude.{◌≡◌, ◌<◌, ℕ, List}
use Rattle.std.proofs.Common.{Option, Some, None}
use Rattle.propagation.specs.History.{Book, CentralAt, now}
use Rattle.propagation.specs.Stamps.{IsCut}
use Rattle.propagation.specs.Logs.{Emission}
use Rattle.propagation.specs.Rules.{Opening}
use Rattle.propagation.specs.Openings.{with_more, opened_leg}

-- the emissions are the central values at the book's clocks, with these clocks cut to what each rests on; an unborn service has none
pub record AreCentral {V D : Type 0} (b : Book V D) (emitted : ℕ → Option (Emission V)) : Type 0 where
  pub unborn : (n : ℕ) → now b n ≡ 0 → emitted n ≡ None
  pub born : (n : ℕ) → 0 < now b n → (m : Emission V) × (emitted n ≡ Some m) × CentralAt b (now b) n m.value × IsCut b (now b) n m.stamps

-- Central values after one leg, which its value lines show, open the next leg, whatever definitions it adds.
abbrev pub CentralValuesOpen : Type 0 → Type 0 → Type 0
CentralValuesOpen V D = (b : Book V D) (more : ℕ → List D) (emitted : ℕ → Option (Emission V)) → AreCentral b emitted → Opening (opened_leg (with_more b more) (now b) emitted)
