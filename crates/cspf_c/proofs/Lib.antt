-- The lemmas of this crate's proofs.
pub mod RowCounts
pub mod Steps
pub mod Pointers
pub mod Passed
pub mod Given
pub mod Streams
