pub mod Owned
pub mod Marked
