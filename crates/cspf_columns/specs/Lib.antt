-- The definitions that the contracts of this crate cite, besides those of `cspf_model`. `Index` is
-- public, and the other modules are private.
pub mod Index
pub mod Rows
pub mod Reverses
pub mod MergeSteps
pub mod AlikeChanges
