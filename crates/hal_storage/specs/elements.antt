pub mod Components
pub mod SeenComponents
