pub mod Grammar
pub mod Building
pub mod Texts
pub mod Events
pub mod Transcript
pub mod OneLine
pub mod Histories
