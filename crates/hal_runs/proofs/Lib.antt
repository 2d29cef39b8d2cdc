pub mod Same
pub mod Expanded
