pub mod Rows
pub mod Listed
pub mod Members
pub mod Staying
pub mod Meant
pub mod Readers
pub mod Layers
