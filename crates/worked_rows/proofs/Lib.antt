pub mod HelloReading
pub mod CountReading
pub mod Names
pub mod Types
