pub mod Fitting
pub mod Reaching
pub mod Leading
