pub mod CommandLine
pub mod Causes
pub mod Outcomes
pub mod Told
pub mod Works
pub mod Performed
