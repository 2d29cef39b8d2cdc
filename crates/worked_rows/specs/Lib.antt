pub mod Columns
pub mod Files
pub mod Runs
pub mod HelloWords
pub mod CountWords
