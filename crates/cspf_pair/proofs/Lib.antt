pub mod DistinctSums
pub mod Bounds
pub mod Ways
pub mod Reasons
pub mod Exchanges
