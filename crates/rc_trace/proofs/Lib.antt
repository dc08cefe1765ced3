pub mod Braces
pub mod Made
pub mod Parts
pub mod Walks
pub mod Written
