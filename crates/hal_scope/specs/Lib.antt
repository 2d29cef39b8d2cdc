pub mod Builtins
pub mod Sorts
pub mod Uses
pub mod Repeated
pub mod Labels
pub mod Components
pub mod Rules
pub mod Faults
