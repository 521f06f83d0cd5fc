-- The definitions that this crate's contracts use.
pub mod Snapshots
pub mod SnapshotLaws
