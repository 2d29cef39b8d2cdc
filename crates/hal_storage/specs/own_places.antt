pub mod Owned
pub mod SeenPlaces
pub mod PlacedGroups
