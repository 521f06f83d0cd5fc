-- The lemmas of this crate.
pub mod Databases
pub mod Batches
pub mod Routes
pub mod Networks
