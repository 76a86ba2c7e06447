pub mod Told
pub mod Epochs
pub mod Refusals
pub mod Capped
