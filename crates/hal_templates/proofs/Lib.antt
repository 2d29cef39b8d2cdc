pub mod Repeated
pub mod Gathered
pub mod Pairs
pub mod Ends
pub mod Tables
pub mod Followed
pub mod FollowedExpressions
pub mod FollowedDeclarations
pub mod FollowedStatements
pub mod FollowedFiles
pub mod Agreeing
pub mod SameHeads
pub mod Shown
pub mod Given
pub mod Worked
mod Found
