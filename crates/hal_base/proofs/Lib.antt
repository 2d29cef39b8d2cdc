pub mod Parts
pub mod FirstLine
