-- Lemmas on databases: keys, changes and counts.
pub mod Keys
pub mod LinksOfRows
pub mod FoundLinks
pub mod DistinctRouters
pub mod OneChange
pub mod ChangedRows
pub mod EndCounts
pub mod LastChanges
pub mod MarkedLinks
pub mod CountedRouters
