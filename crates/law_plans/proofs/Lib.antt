pub mod Goes
pub mod Plays
pub mod Recordings
pub mod Runs
