pub mod Attributes
pub mod Data
pub mod Subscripts
pub mod Classes
