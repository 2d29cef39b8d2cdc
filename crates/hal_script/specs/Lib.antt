pub mod Words
pub mod Numbers
pub mod DataTexts
pub mod DataPieces
pub mod Readings
pub mod Fits
pub mod ScriptTexts
pub mod Journals
