pub mod Calls
pub mod Expressions
pub mod Programs
pub mod Subscripts
