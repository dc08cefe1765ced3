pub mod Examples
mod Names
mod Requests
