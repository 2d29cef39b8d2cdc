pub mod Reading
pub mod ReadingExpressions
pub mod Best
pub mod Seen
pub mod SeenParts
pub mod Joints
pub mod Openings
