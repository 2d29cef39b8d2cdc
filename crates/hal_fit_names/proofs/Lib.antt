mod Loose
mod RightKnown
pub mod Holding
mod Valuing
pub mod Folding
pub mod Suiting
pub mod Keeping
pub mod Plain
pub mod PlainExpressions
pub mod PlainStatements
pub mod PlainDeclarations
pub mod Placing
mod Growing
mod Rounds
pub mod Sizing
mod Heads
mod Results
mod Declaring
pub mod Owning
mod Asking
mod Usages
mod CalledBlocks
pub mod MeantItems
mod MeantValues
mod MeantCells
mod MeantEvents
mod MeantForms
mod MeantCalls
mod Clashing
mod Counts
mod Bodied
mod UnitPhrases
mod Callable
pub mod KindsMeant
pub mod Parametered
pub mod Homing
pub mod Pooling
mod Temporary
mod Worth
mod Processes
pub mod Channelled
pub mod Standing
pub mod Twins
mod CalledParameters
pub mod CalledTemplates
pub mod Pooled
mod FirstValues
pub mod SameValues
pub mod PooledValues
mod UnitsKnown
