pub mod rows
pub mod paths
pub mod spelled
pub mod views
pub mod areas
pub mod images
