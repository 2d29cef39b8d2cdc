pub mod Lists
pub mod Sized
pub mod Placed
pub mod Shown
pub mod RowsAlike
pub mod Roomy
mod RowsFound
