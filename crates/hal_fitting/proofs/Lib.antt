pub mod Passing
pub mod Joining
pub mod Stepping
pub mod Leading
pub mod Whole
