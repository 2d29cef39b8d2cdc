pub mod Repetition
pub mod Suiting
pub mod SeenCells
pub mod Falling
pub mod Initials
