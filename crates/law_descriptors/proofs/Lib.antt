mod Keeps
mod Acts
mod Builtins
mod Cmds
pub mod Covered
