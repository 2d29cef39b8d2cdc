pub mod Contention
pub mod Tables
