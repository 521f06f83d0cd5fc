-- Private: how a table stores its database.
pub mod Parts
pub mod RouterSets
pub mod AddressRanges
pub mod Tallies
pub mod Reshaping
