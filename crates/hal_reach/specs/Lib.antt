pub mod Marks
pub mod Sweeps
pub mod Places
pub mod Calls
pub mod SeenUnits
