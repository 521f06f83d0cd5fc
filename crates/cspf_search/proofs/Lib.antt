pub mod Orders
pub mod Cuts
pub mod Settles
pub mod Labelled
pub mod Firsts
pub mod Backs
pub mod Scans
pub mod Ranks
pub mod Offered
pub mod Pushed
pub mod Heaps
pub mod Popped
pub mod Reached
pub mod Expanded
pub mod Taken
pub mod Few
pub mod Looked
mod Lows
pub mod Marked
pub mod Grown
pub mod Answered
pub mod LegBounds
mod Broken
pub mod LegTargets
pub mod Trees
