pub mod Drafting
pub mod Stopping
