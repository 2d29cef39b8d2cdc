pub mod Blocks
pub mod Placed
pub mod Programs
pub mod Rules
pub mod Faults
