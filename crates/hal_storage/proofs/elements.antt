pub mod Attributes
pub mod Repeated
pub mod Shaped
pub mod Parted
pub mod Capped
pub mod Found
