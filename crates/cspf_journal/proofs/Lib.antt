pub mod Prefixes
pub mod JournalSteps
pub mod BatchAddition
pub mod Counting
pub mod Knowing
