pub mod Kept
pub mod Code
pub mod Rows
pub mod Names
pub mod Named
pub mod Scopes
