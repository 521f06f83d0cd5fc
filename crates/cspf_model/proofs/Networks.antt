-- Lemmas on the small networks of `specs/NetworkLaws`.
pub mod NetworkLinks
pub mod Reverses
pub mod Marks
pub mod GrownWalks
pub mod UnknownEnds
