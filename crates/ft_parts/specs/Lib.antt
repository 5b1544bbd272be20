pub mod Types
pub mod Instances
pub mod Places
