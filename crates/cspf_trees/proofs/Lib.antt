-- The lemmas of this crate.
pub mod JoinedOrders
pub mod JoinedWalks
pub mod LegByLeg
pub mod OutlastingTrees
pub mod SoleTargets
