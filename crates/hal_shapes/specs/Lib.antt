pub mod Reaches
pub mod Spans
pub mod Paths
pub mod Selections
pub mod Ranges
pub mod Shapes
pub mod Arguments
