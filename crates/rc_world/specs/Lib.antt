pub mod Faults
pub mod Views
pub mod Comes
pub mod Tapes
