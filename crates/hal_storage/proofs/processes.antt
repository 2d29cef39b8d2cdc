pub mod Pointed
