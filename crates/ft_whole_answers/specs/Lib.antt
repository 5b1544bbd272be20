pub mod Statuses
pub mod Asking
pub mod Runs
pub mod Answers
pub mod Calls
pub mod Clauses
