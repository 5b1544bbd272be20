pub mod Firsts
pub mod Rules
pub mod Rows
pub mod Names
