pub mod KeptLiterals
pub mod Rows
pub mod SeenLeaves
pub mod SeenExpressions
pub mod SeenDeclarations
pub mod SeenStatements
pub mod SeenUnits
