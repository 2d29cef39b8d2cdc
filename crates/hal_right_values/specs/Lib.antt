pub mod Ranges
pub mod Fitting
pub mod Spreading
pub mod Finding
pub mod Holding
