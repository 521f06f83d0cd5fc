pub mod ShorterWays
pub mod TightWalks
