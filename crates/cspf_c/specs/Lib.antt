-- The definitions that this crate's contracts use.
pub mod History
pub mod Holding
pub mod Calls
