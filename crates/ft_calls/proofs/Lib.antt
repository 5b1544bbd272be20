pub mod Entries
pub mod Ends
pub mod Answering
pub mod Calling
pub mod Variables
pub mod Declared
pub mod Later
