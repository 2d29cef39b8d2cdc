pub mod ReadingFiles
pub mod Stuck
pub mod Parsed
pub mod Headings
pub mod Reaching
