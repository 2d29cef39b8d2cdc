pub mod Locked
pub mod Updates
pub mod Barred
pub mod Callees
pub mod Placed
pub mod Passed
pub mod Rules
pub mod Faults
