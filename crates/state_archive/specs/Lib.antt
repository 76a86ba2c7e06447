pub mod Causes
pub mod Entries
pub mod Fakes
pub mod Laws
