pub mod Decimals
pub mod Launched
pub mod Refused
pub mod Unrecorded
