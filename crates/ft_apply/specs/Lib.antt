pub mod Named
pub mod Outcomes
pub mod Instances
pub mod Starting
pub mod Equations
