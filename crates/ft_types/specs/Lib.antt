pub mod Code
pub mod Types
pub mod Names
pub mod Checking
pub mod Commands
