pub mod Given
pub mod Leaves
pub mod Calls
pub mod Expressed
mod Samples
