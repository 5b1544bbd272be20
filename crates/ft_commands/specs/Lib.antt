pub mod Parts
pub mod Runs
pub mod Telling
pub mod Doing
