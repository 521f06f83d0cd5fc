-- The definitions that this crate's contracts use.
pub mod BatchWords
pub mod EndRows
pub mod FirstRows
pub mod Lines
pub mod LineTexts
pub mod OpenChanges
pub mod RefusedRows
pub mod RowAnswers
pub mod RowCounts
pub mod RowsTaken
pub mod Runs
pub mod Sinks
pub mod StreamStops
