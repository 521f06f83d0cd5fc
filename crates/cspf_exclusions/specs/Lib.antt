-- The definitions of excluded links. `Removals` is private.
pub mod Exclusions
pub mod Laws
pub mod Removals
