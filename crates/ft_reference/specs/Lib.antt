pub mod Refusals
pub mod Compare
pub mod Checks
pub mod Calls
pub mod Declare
pub mod Nucleus
