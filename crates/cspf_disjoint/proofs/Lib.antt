pub mod Ends
pub mod FirstPairs
pub mod Numbers
pub mod Sums
pub mod WayLinks
