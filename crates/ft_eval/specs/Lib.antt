pub mod Asking
pub mod Begun
pub mod Frames
pub mod Fits
pub mod Turns
pub mod Progress
pub mod CommandsAsking
