pub mod Celled
pub mod Grouped
