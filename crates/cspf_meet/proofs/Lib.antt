pub mod Falling
pub mod RankBounds
pub mod Waiting
pub mod Looked
pub mod Apart
pub mod Corridors
pub mod Guiding
