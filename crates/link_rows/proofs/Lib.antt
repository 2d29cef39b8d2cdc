pub mod Calls
pub mod Expressions
pub mod Groups
pub mod Programs
pub mod Subscripts
