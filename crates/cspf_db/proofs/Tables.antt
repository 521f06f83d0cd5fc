-- Lemmas on the parts of a table, and on checking a batch.
pub mod LinkCounts
pub mod OwnerPlaces
pub mod GoneRouters
pub mod CoveredRanges
pub mod MarkChanges
pub mod TransitColumn
pub mod Plans
pub mod SeenRows
pub mod Shapes
pub mod Reshaping
