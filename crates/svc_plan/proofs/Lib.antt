pub mod BornLemmas
pub mod LegLemmas
pub mod Rewinding
pub mod RowLemmas
