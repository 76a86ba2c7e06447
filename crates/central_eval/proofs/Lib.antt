pub mod Evaluating
pub mod Marking
