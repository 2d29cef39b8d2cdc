pub mod Broken
pub mod Lists
pub mod Silent
