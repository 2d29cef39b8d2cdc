pub mod ReadingDeclarations
pub mod ReadingNames
pub mod DeclarationWords
