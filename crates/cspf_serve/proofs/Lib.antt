-- The lemmas of this crate's proofs.
pub mod StreamFaults
pub mod Begun
pub mod BatchLines
pub mod BatchFronts
pub mod ScriptOfBatches
pub mod AnswerLines
pub mod PartLines
pub mod PublishedLines
pub mod LiveRunLines
pub mod StepsOfRun
pub mod UpdatesSteps
pub mod UpdatesStream
pub mod Pairs
pub mod PublishingSteps
pub mod ServedSteps
pub mod FreshLines
