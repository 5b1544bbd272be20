pub mod Expressions
pub mod Small
pub mod Statements
pub mod Rules
pub mod Steps
pub mod WideSteps
pub mod Derivability
