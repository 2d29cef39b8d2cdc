pub mod Bounds
pub mod Behind
