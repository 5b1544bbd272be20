pub mod Atoms
pub mod Merge
