mod Claimed
mod Bounded
mod Binding
mod Premised
mod Ruled
mod Shown
pub mod Marks
mod Faulting
mod Doing
