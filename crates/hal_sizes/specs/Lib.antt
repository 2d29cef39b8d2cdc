pub mod Counts
pub mod Constancy
pub mod Sizes
pub mod Parts
pub mod Cells
