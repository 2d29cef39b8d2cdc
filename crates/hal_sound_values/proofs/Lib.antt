pub mod Near
pub mod RightStrings
pub mod RightTexts
pub mod RightResults
pub mod KindsKept
pub mod Giving
