pub mod Bytes
pub mod Found
pub mod Named
pub mod States
pub mod Writing
