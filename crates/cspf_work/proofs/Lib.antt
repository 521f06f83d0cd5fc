-- The lemmas of this crate's proofs.
pub mod Asked
pub mod Filling
pub mod Running
pub mod Draws
pub mod Faults
pub mod StrayVersions
pub mod Joining
pub mod Applying
pub mod Telling
pub mod LatestAnswers
