pub mod Uses
pub mod Sorted
pub mod Serving
