pub mod Fits
pub mod Counts
pub mod Exact
pub mod Levels
pub mod Sound
pub mod OneSpelling
pub mod OneTree
pub mod Trees
pub mod Members
pub mod Entries
pub mod Sizes
pub mod Functions
pub mod Texts
pub mod Cuts
pub mod Words
pub mod Handed
mod Vectors
mod Examples
pub mod Proper
pub mod ReadProper
pub mod Lookups
pub mod DenotedFunctions
pub mod Denoted
