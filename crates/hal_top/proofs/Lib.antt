pub mod Completing
pub mod Exclusions
pub mod Fetching
pub mod Forms
pub mod Headline
pub mod Performing
pub mod Prepared
pub mod Refusals
