pub mod Layout
pub mod Machine
