pub mod BitLists
pub mod BitWords
pub mod TextLists
pub mod ReadTexts
pub mod Division
pub mod Scaling
pub mod Orders
pub mod Replacing
