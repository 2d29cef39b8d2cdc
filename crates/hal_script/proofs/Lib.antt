pub mod Channels
pub mod DataPieces
pub mod FirstWord
pub mod Limits
pub mod OneReading
pub mod Progress
