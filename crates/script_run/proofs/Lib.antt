pub mod Completing
pub mod OpenRows
pub mod Running
pub mod Sorting
