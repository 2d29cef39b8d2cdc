pub mod Rules
pub mod Faults
