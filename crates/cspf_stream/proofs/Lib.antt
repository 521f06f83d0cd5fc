-- The lemmas of this crate's proofs.
pub mod BatchRefusals
pub mod Going
pub mod KeptChanges
pub mod RowSteps
pub mod Running
