-- What the contracts of the crate's own functions cite: how a command works. No public contract rests on it.
pub mod Blocks
pub mod Calls
pub mod FrameLines
pub mod Input
pub mod Running
pub mod StepLines
