pub mod Splitting
pub mod Versions
pub mod Extending
pub mod Turns
pub mod Whole
