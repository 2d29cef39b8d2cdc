pub mod Cut
pub mod Behind
