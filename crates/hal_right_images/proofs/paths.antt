pub mod Placed
pub mod Kinded
pub mod Twins
pub mod Held
pub mod SameStructures
pub mod Ends
pub mod Shapes
mod Referring
mod Meaning
mod Agreeing
mod PathsKnown
