pub mod Owned
pub mod Ranked
pub mod Rows
