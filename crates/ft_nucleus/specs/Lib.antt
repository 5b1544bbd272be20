pub mod Forms
pub mod Sides
pub mod Named
pub mod Substituting
pub mod Equating
