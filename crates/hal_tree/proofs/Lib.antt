pub mod MadeExpressions
pub mod MadeDeclarations
pub mod MadeStatements
pub mod MadeUnits
