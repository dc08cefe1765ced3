pub mod Accounts
pub mod WriteEnds
pub mod Counts
pub mod Family
pub mod Members
pub mod Outcome
mod Faults
pub mod Read
mod Answered
pub mod Processes
pub mod Steps
pub mod Promised
mod Starts
pub mod Grow
pub mod Reached
