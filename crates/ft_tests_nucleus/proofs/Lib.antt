pub mod Below
pub mod Growing
pub mod Listing
pub mod Numbered
