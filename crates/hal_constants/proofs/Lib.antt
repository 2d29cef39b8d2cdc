pub mod Lists
pub mod Taking
pub mod Slots
