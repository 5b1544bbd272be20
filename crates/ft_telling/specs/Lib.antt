pub mod Telling
pub mod Laws
pub mod Words
