pub mod Pairs
pub mod Answers
pub mod Laws
pub mod Potentials
pub mod PotentialLaws
