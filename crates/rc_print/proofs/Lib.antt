pub mod Forms
pub mod Bodies
pub mod Texts
