-- What the contracts of the crate's own functions cite: parts of a network, and how they change. No public contract rests on it.
pub mod Table
pub mod Marks
pub mod Acting
pub mod Beginning
pub mod Draining
pub mod Working
pub mod Handing
pub mod Parting
pub mod Rings
pub mod Joining
