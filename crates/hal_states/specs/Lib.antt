pub mod Spots
pub mod OfKinds
pub mod Modes
pub mod Lines
pub mod Numbers
pub mod Times
pub mod Telling
