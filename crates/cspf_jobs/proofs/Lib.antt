-- The lemmas of this crate's proofs.
pub mod JobSteps
pub mod Totals
pub mod DrawSteps
