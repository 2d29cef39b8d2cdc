pub mod Numbered
pub mod SeenStated
