pub mod Typed
pub mod SafeWords
pub mod SafeForms
pub mod SafeCommands
pub mod SafeRules
pub mod SafeRuns
pub mod Transcripts
pub mod Contents
mod Grows
mod Lists
mod Made
mod Calls
mod Equal
mod Words
mod Built
mod Evaluations
mod Rules
mod Runs
mod Told
mod Whole
mod Mentions
mod Staying
