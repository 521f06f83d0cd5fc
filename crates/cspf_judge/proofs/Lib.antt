-- The lemmas of this crate's proofs.
pub mod Lookups
pub mod OneExceptLine
pub mod Judgments
pub mod QuestionHeads
pub mod ReplyComparison
pub mod LineCuts
pub mod BatchSteps
pub mod IdPlaces
pub mod ComparingSteps
pub mod ReadingSteps
pub mod ReplySteps
pub mod AuditSteps
pub mod AuditRunLines
pub mod Fronts
pub mod SnapshotRunLines
