pub mod Trees
pub mod Told
