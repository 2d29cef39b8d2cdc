pub mod Environments
pub mod Blocks
pub mod Found
