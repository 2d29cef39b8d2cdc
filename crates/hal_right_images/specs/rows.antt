pub mod Parts
pub mod Purposes
pub mod Homes
pub mod Nested
