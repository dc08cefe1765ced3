pub mod Faults
pub mod Nodes
pub mod Shapes
pub mod Steps
pub mod Reading
pub mod Rests
