pub mod Kinded
