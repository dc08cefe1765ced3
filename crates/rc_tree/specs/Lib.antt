pub mod View
pub mod Fits
pub mod Levels
pub mod Rooms
pub mod LiteralTexts
