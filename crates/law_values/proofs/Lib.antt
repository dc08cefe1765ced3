pub mod Classes
pub mod Steps
pub mod Computed
pub mod Going
pub mod Sorted
pub mod Walking
pub mod Found
pub mod Once
pub mod Traces
pub mod Words
pub mod Unique
mod Rows
pub mod Split
pub mod Join
pub mod Select
