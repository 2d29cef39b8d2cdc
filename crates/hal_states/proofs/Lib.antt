pub mod OfKind
pub mod Timing
pub mod Telling
