pub mod Accounts
pub mod Family
pub mod Steps
