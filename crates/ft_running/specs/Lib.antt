pub mod Evaluation
pub mod Readers
pub mod Ends
pub mod Matching
pub mod Telling
pub mod Laws
pub mod Asked
