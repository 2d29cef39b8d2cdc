pub mod Agreeing
pub mod Broken
pub mod Fitting
pub mod Faultless
pub mod Meanings
pub mod ReadingOn
pub mod Readings
pub mod Running
