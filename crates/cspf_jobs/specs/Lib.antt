-- The definitions of this crate.
pub mod Jobs
pub mod EachOnce
pub mod DrawnNumbers
pub mod SeatDraws
pub mod DrawRule
