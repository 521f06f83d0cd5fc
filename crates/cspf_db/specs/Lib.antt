-- The definitions that the contracts of `Table` cite, besides those of `cspf_model`.
pub use Rattle.cspf_columns.specs.Index
pub mod Owners
pub mod Plans
pub mod Replays
pub mod Shapes
pub mod Tables
