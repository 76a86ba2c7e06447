pub mod Lists
pub mod Laws
pub mod Opening
pub mod Blocks
