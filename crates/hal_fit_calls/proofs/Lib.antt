pub mod Each
pub mod Reached
mod Harmless
