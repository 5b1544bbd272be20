pub mod Faults
pub mod Meaning
pub mod Fits
pub mod Moving
pub mod Code
pub mod Laws
