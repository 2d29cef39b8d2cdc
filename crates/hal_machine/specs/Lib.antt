pub mod Stacks
pub mod Blocks
pub mod Seen
pub mod Pairs
pub mod Fitting
pub mod Tops
pub mod Spreading
