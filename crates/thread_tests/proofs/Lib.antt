pub mod HandLemmas
pub mod LegLemmas
