pub mod Wants
pub mod Pairs
pub mod Taken
pub mod Times
