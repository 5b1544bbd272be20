pub mod Arguments
pub mod Statements
pub mod Parts
pub mod Written
