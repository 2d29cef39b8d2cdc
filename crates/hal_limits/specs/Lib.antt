pub mod Limits
pub mod Counts
pub mod Sizes
pub mod SeenViews
pub mod Choices
pub mod Behind
pub mod Noting
pub mod Kept
