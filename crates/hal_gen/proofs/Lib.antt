pub mod Measured
pub mod Keeping
mod ChannelNumbers
pub mod Received
pub mod Simple
pub mod Timed
pub mod Spanned
mod Unaware
mod Handled
pub mod Stated
pub mod Forwarding
mod Led
mod Counted
mod Tested
mod Given
mod Grouped
mod Stored
mod Paused
mod Asked
mod Called
mod Branched
mod Ranged
mod Updated
mod Direct
