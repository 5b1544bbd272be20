pub mod Named
pub mod Outcomes
pub mod Putting
pub mod Operands
