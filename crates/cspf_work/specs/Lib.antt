-- The definitions that this crate's contracts cite.
pub mod AskingErrors
pub mod Served
pub mod Working
pub mod Collected
pub mod Strays
pub mod Applied
