pub mod Trees
pub mod ByteReading
pub mod ByteLaws
pub mod Parts
