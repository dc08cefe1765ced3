pub mod Evals
pub mod Left
pub mod CommandLines
pub mod Gathered
pub mod Written
