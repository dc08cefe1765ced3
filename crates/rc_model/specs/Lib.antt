pub mod Syntax
pub mod Run
pub mod Code
pub mod Handed
pub mod Family
pub mod Mirrors
