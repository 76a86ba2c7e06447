pub mod SlotsLemmas
pub mod LagLemmas
pub mod GreatestLemmas
pub mod HeldLemmas
pub mod KeptLemmas
pub mod TurnLemmas
