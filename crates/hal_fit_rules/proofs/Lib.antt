pub mod Beginning
pub mod BegunExpressions
pub mod Unbroken
mod Classes
mod Limiting
pub mod Kinding
mod Choosing
mod Referring
mod Passing
mod Areas
mod Forming
pub mod Agreeing
pub mod BegunStatements
pub mod BegunDeclarations
pub mod BegunUnits
pub mod Stating
pub mod Declaring
pub mod Ranging
mod Cells
pub mod Receiving
mod Reading
mod Counting
mod Channeling
mod Signalling
mod Outside
mod Leaving
pub mod Happening
mod Procedures
pub mod Marking
mod Ruling
mod Using
mod UsingStatements
pub mod UsingUnits
pub mod Parameters
pub mod Calling
pub mod Constants
pub mod Structuring
pub mod Eventful
mod LookedAt
