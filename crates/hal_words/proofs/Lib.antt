pub mod Kept
pub mod NameEquality
