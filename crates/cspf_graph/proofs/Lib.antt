pub mod RouterIndexes
pub mod LinkRows
pub mod RowLocals
pub mod RoleLists
pub mod Slices
pub mod TargetLemmas
