pub mod Units
pub mod Marks
pub mod SeenBodies
pub mod SeenSets
