-- The lemmas of this crate's proofs.
pub mod SolverSteps
pub mod OneReply
pub mod RowCounts
pub mod SolveRun
pub mod OutputPrefix
