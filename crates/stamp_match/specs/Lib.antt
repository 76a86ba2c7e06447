pub mod Named
pub mod Looks
pub mod Kept
pub mod Falling
pub mod Moved
