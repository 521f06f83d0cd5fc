-- The lemmas of this crate's proofs.
pub mod BeginLines
pub mod BookUpdatesRun
pub mod PublishedBooks
pub mod SameBooks
pub mod ServedCovers
pub mod ServedKept
pub mod ShownSteps
