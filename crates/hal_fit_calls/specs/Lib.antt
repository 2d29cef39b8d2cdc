pub mod Each
pub mod Harmless
