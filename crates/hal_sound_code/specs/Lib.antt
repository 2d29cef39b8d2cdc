pub mod Entries
pub mod Lying
pub mod Standing
pub mod Typed
pub mod Room
