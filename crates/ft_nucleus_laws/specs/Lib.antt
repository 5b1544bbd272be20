pub mod Laws
pub mod SmallAnswers
pub mod Worked
pub mod Rows
