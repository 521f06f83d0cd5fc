-- The definitions that this crate's contracts use.
pub mod Script
pub mod OutputAtError
pub mod SolveLaws
pub mod SolverStates
pub mod Status
pub mod TableSinks
