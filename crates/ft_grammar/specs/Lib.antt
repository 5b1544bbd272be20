pub mod Fronts
pub mod Tokens
pub mod Made
pub mod Rules
pub mod Forms
pub mod Grammar
pub mod Reading
pub mod Sources
