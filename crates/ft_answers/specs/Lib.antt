pub mod CommandLine
pub mod Words
pub mod Statuses
pub mod Exports
pub mod Answer
