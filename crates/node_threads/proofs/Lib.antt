pub mod LegLemmas
pub mod SendLemmas
pub mod TurnLemmas
