pub mod Joins
pub mod Shells
pub mod Answered
pub mod Copies
pub mod Tapes
