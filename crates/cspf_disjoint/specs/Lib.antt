pub mod Bound
pub mod Excess
pub mod Potentials
pub mod Weights
