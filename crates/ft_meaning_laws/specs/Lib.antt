pub mod Fits
pub mod Runs
pub mod Derivability
pub mod Texts
