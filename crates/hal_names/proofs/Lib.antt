pub mod KeyEquality
pub mod Indexed
pub mod Counted
pub mod CountedExpressions
pub mod CountedDeclarations
pub mod CountedStatements
pub mod CountedFiles
pub mod Places
pub mod Search
mod Homes
pub mod Spanned
pub mod Declared
