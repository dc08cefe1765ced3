pub mod Files
pub mod Outcomes
pub mod Scripts
pub mod Words
pub mod Known
