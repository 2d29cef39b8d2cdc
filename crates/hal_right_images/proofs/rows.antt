pub mod Rules
pub mod Made
pub mod LookingUp
pub mod Calling
pub mod Small
pub mod Shaped
mod Plain
mod PlainExpressions
mod PlainDeclarations
mod PlainStatements
pub mod Told
mod ToldDeclarations
pub mod ToldUnits
pub mod Bodied
pub mod Filled
pub mod Templates
pub mod Stored
mod Referring
mod Strict
pub mod Numbered
mod Adding
pub mod Alone
mod Celled
pub mod Referred
pub mod Purposed
pub mod Formed
pub mod Lines
mod Shown
pub mod Reported
pub mod Named
pub mod Lying
mod Homing
mod HomingExpressions
mod HomingDeclarations
mod HomingStatements
pub mod HomingFiles
pub mod Visible
pub mod Sharing
mod Grouping
mod GroupingExpressions
mod GroupingDeclarations
mod GroupingStatements
pub mod GroupingFiles
pub mod Nesting
pub mod Pooled
