pub mod Plain
pub mod PlainExpressions
pub mod PlainDeclarations
pub mod PlainStatements
pub mod Opening
pub mod Belonging
pub mod Standing
pub mod Leading
mod Above
pub mod Choosing
pub mod Alike
