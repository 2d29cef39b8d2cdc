pub mod Blocks
pub mod Accepted
