pub mod Histories
pub mod KnownBatches
pub mod JournalSteps
pub mod Readings
pub mod HistoryRule
pub mod JournalStates
