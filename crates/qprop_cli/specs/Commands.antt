-- What each command has read and written when it is done. The clauses of the top call cite it.
pub mod Central
pub mod Check
pub mod FrameLine
pub mod Frames
pub mod Load
pub mod Step
