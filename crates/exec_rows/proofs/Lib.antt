pub mod Deciding
pub mod Desks
