mod Mapping
mod Cleared
mod Copied
mod Alive
mod Going
mod Answers
pub mod Sound
mod Expanded
mod Readied
mod Owned
mod Counting
mod Tests
mod Tables
mod Casing
mod Counted
mod Spinning
mod Jumped
mod Passing
