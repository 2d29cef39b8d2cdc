mod Adding
pub mod Bases
mod Leaves
mod Calling
mod Expressions
mod Receivers
mod Statements
mod Units
mod Linked
mod Together
mod Seen
pub mod Held
pub mod Reached
pub mod Laying
mod OwnPlaces
pub mod Choosing
pub mod ChosenViews
mod Referring
pub mod Limits
mod Outside
mod Inner
pub mod Leading
mod Standing
mod PathsLeading
mod Pools
mod Nested
mod SameParts
mod TemplatesLeading
