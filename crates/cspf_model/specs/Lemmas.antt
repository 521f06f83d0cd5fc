-- Private: definitions for lemmas on databases that are made from lists of links. The links are
-- called rows. The lemmas say how changes act on these rows.
pub mod LinkRows
pub mod LinkChanges
pub mod MarkChanges
pub mod RepeatedKeys
pub mod RowsLeft
pub mod GoneRouters
pub mod CountedEnds
