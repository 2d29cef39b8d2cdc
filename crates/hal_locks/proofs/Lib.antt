pub mod Homes
pub mod Tables
pub mod Grouped
