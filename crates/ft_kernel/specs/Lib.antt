pub mod Steps
pub mod Lines
pub mod State
pub mod Invariant
pub mod Shown
