pub mod Steps
pub mod Session
pub mod Given
pub mod Claiming
pub mod Asking
pub mod Printing
pub mod Declaring
pub mod Running
