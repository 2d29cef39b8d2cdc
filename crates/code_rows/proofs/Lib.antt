pub mod Instructions
pub mod WrongInstructions
pub mod WrongTables
