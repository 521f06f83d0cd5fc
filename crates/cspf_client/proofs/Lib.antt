pub mod Prefixes
pub mod Forward
pub mod Requests
pub mod Runs
pub mod Sessions
