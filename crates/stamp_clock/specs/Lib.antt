pub mod Places
pub mod WordOf
pub mod Beside
pub mod Table
pub mod TableOf
