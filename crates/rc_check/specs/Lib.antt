pub mod Positions
pub mod Findings
pub mod Verdicts
