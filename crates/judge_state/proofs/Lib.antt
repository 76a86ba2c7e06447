pub mod Rows
pub mod Sending
pub mod Lists
pub mod Opening
pub mod Blocks
