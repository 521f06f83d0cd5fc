pub mod Labels
pub mod Looks
pub mod Bounds
pub mod Corridors
pub mod Meetings
pub mod Guided
