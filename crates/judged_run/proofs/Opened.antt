-- Central values open the next leg.
use Rattle.std.proofs.Common.{ℕ, Option, refl}
use Rattle.propagation.specs.History.{Book, now}
use Rattle.propagation.specs.Logs.{Emission}
use Rattle.propagation.specs.Openings.{opened_leg}
use Rattle.propagation.specs.Rules.{Opening}
use Rattle.propagation.proofs.Legs.{opening-grown}
use Rattle.judged_run.specs.Opened.{AreCentral, CentralValuesOpen}

central-opening : {V D : Type 0} (b : Book V D) (emitted : ℕ → Option (Emission V)) → AreCentral b emitted → Opening (opened_leg b (now b) emitted)
central-opening b emitted central = record {
  unborn = central.unborn;
  born = central.born;
  read_by = λ p q. refl;
  holds = λ n p e. refl;
  tells = λ p n e. refl;
  hears = λ n p e. refl;
}

pub central_values_open : (V D : Type 0) → CentralValuesOpen V D
central_values_open V D b more emitted central = opening-grown b emitted more (central-opening b emitted central)
