pub mod Cuts
pub mod Ends
pub mod Kept
pub mod Padded
pub mod Ring
pub mod Waiting
