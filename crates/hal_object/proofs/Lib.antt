pub mod ReadingLaws
pub mod ChoiceLaws
pub mod KindLaws
pub mod RowLaws
pub mod OperandLaws
pub mod InstrLaws
pub mod ImageLaws
pub mod Loops
