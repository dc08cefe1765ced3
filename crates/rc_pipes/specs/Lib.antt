pub mod Starts
pub mod Jobs
pub mod Launches
pub mod Readings
pub mod Stages
