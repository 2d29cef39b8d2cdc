pub mod Features
pub mod Clashes
pub mod Levels
pub mod Typed
pub mod Storage
