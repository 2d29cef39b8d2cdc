pub mod Within
pub mod Callees
pub mod Reaching
pub mod Recursion
pub mod Declared
mod Swept
