pub mod Redirections
pub mod Opening
