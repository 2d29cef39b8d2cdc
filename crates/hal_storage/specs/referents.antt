pub mod FirstCells
pub mod Referents
pub mod SeenReferents
