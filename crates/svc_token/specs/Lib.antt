pub mod Cutting
pub mod Keyword
pub mod Word
