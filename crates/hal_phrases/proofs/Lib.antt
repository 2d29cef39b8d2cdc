pub mod Bottoms
pub mod Elements
