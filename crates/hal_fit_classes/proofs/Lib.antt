pub mod Pairing
pub mod Sorting
