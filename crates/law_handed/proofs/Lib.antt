mod Bodies
pub mod Characters
pub mod Parts
pub mod Safe
mod Acts
mod Builtins
mod Cmds
pub mod Played
pub mod Keeping
