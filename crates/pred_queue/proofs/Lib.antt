pub mod ToldLemmas
pub mod EpochsLemmas
pub mod KeysLemmas
