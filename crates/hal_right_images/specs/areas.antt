pub mod Blocks
pub mod Said
pub mod Sized
pub mod Reached
pub mod InCopies
pub mod Structured
