pub mod Drained
pub mod FarBits
pub mod Joined
pub mod LeftNames
pub mod PassedRests
pub mod Ranges
pub mod Reports
mod Sizes
