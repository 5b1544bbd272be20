pub mod Own
pub mod Mets
pub mod Names
pub mod Premises
pub mod Finishing
