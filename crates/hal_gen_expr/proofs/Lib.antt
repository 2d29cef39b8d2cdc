pub mod Growing
pub mod Referring
pub mod Shaped
pub mod Numbered
pub mod Named
mod Sized
pub mod Constancy
mod Spanning
mod Skipped
mod Singled
pub mod Expressed
pub mod Appending
pub mod Forwarding
mod Chosen
mod Listed
mod Capped
mod FirstFound
mod HeldSlots
pub mod IndexedViews
mod Formed
pub mod Sited
pub mod Chained
pub mod FoundBodies
mod FoundParameters
mod Calling
