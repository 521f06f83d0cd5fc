-- Lemmas on the links of a table and on its columns, for this crate and the crates that use it.
pub mod SortedEntries
pub mod RowOrder
pub mod SortedChanges
pub mod RowSpans
pub mod TableLimits
pub mod RouterLists
pub mod OwnedPrefixes
pub mod InterfaceRange
pub mod EndColumn
pub mod ReverseColumn
pub mod PairedRows
pub mod MovedReverses
pub mod AlikeRows
pub mod RouterColumn
pub mod MergedRows
pub mod RouterPlaces
pub mod RemainingRouters
