-- What the contracts of the crate's own functions cite. No public contract rests on it.
pub mod Cutting
pub mod Parts
pub mod Logs
