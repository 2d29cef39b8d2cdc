pub mod Views
pub mod Once
