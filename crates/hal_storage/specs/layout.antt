pub mod Layouts
pub mod SeenLayout
