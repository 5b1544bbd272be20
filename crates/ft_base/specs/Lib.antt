pub mod Budget
pub mod Names
pub mod Words
