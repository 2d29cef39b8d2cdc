pub mod Same
pub mod Joined
