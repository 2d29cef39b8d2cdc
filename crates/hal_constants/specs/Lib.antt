pub mod Operands
pub mod Results
pub mod Naming
pub mod Constants
pub mod Known
pub mod SeenKnown
