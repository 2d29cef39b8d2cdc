pub mod Naming
pub mod Lying
pub mod Placed
pub mod Holding
pub mod Left
