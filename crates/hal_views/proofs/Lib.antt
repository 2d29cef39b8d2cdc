pub mod CellsCounted
pub mod Distinct
