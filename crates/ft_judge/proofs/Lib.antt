pub mod Filling
pub mod Differences
pub mod Moves
pub mod Moved
