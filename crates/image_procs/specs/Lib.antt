pub mod Loads
pub mod Tellings
pub mod Owning
pub mod Courses
pub mod Running
