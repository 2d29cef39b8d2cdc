pub mod Turnless
pub mod Ways
