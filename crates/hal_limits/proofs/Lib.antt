pub mod Counted
pub mod Sized
pub mod Celled
pub mod Chosen
pub mod Behind
pub mod Noted
pub mod Stored
pub mod Kept
