-- The lemmas on excluded links.
pub mod ListedItems
pub mod ChangesInParts
pub mod Removed
pub mod WithoutLinks
