pub mod Forms
pub mod Real
pub mod Receivers
pub mod Subscripts
pub mod Calls
