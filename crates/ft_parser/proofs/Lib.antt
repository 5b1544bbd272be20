pub mod Turns
pub mod WordValues
pub mod MoreTurns
pub mod Answered
