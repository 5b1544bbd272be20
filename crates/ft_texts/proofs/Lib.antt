pub mod Pieces
pub mod Expressions
pub mod Statements
pub mod Steps
pub mod Lines
pub mod Characters
pub mod Feeds
pub mod Scalars
pub mod ByLines
pub mod Faults
mod Worked
