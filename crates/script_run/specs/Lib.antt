pub mod Running
pub mod Performed
