pub mod LookingUp
pub mod LookingExpressions
pub mod LookingStatements
pub mod LookingDeclarations
pub mod LookingUnits
