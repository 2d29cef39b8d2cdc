pub mod Homes
pub mod Tabled
pub mod Outlined
pub mod Processed
pub mod UnitCoded
pub mod Linked
mod Placed
mod Coded
mod Following
mod Found
mod Locked
mod Narrow
mod Lent
mod Begun
mod Zeros
mod Ranking
mod Clearing
mod Beginning
mod Owned
mod Followed
