pub mod Joining
pub mod ByArguments
pub mod Domains
pub mod Numbers
pub mod Encoding
pub mod Places
pub mod Whole
