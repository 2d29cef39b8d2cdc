pub mod Arrays
pub mod Draining
pub mod Rests
