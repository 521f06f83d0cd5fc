-- The lemmas of this crate's proofs.
pub mod FullBatches
pub mod Parts
pub mod RouterCounts
pub mod OwnChanges
pub mod MadeDatabase
pub mod LawfulParts
pub mod SnapshotMade
pub mod RisingLists
pub mod OneSnapshot
