pub mod Trees
pub mod Playing
pub mod Listing
pub mod Asking
