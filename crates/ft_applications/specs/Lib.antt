pub mod Reading
pub mod Nests
