pub mod Updates
pub mod Naming
pub mod Shared
pub mod Groups
pub mod Gathering
pub mod SeenShared
