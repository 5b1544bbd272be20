pub mod Answers
pub mod Forming
pub mod Named
pub mod Declaring
