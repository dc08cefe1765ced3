pub mod Digits
pub mod Strings
pub mod Plain
pub mod Turns
mod Mirror
pub mod Spelling
pub mod Rests
