-- Lemmas on batches: which batches fit a database, and why other batches don't fit.
pub mod RouterSets
pub mod LeastReasons
pub mod LawfulBatches
pub mod RisingKeys
pub mod FirstUnfit
