pub mod Booleans
pub mod Choices
pub mod Digits
pub mod Lists
pub mod Options
pub mod Results
pub mod Turns
