pub mod Numbers
pub mod Forms
pub mod Fitting
pub mod Levels
pub mod Sizes
pub mod Assigned
pub mod Characters
