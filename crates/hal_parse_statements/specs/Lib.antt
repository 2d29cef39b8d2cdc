pub mod ReadingStatements
pub mod Beginnings
