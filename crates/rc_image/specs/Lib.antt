pub mod Additions
pub mod Images
pub mod Entries
pub mod Launches
