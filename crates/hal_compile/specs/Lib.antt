pub mod Fitness
pub mod Compiling
pub mod Reading
pub mod Texts
