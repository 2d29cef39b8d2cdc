pub mod Right
pub mod Given
