pub mod Receiving
pub mod Combining
pub mod Keeping
pub mod Looping
pub mod Calling
pub mod Channeling
pub mod Timing
pub mod Returning
pub mod Handling
pub mod Updating
pub mod Stating
pub mod Processes
pub mod Units
pub mod Quiet
pub mod QuietLoops
pub mod QuietStatements
pub mod QuietUnits
mod Samples
