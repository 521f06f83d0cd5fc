-- The definitions of the best answer that avoids excluded links. `UnknownEnds` is private.
pub mod BestExcept
pub mod ExceptLaws
pub mod UnknownEnds
