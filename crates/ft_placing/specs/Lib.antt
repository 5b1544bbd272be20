pub mod Opening
pub mod Sides
pub mod Applied
pub mod Telling
pub mod Laws
