pub mod Tests
pub mod Named
pub mod Homes
pub mod Called
pub mod Bits
pub mod Gathered
pub mod Gathering
