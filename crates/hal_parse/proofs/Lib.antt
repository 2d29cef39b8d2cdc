pub mod HeadsRead
pub mod BlocksRead
pub mod FilesRead
pub mod ExactReadings
pub mod ReadersShorten
pub mod Reached
pub mod Answered
pub mod CodeUnits
