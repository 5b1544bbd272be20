pub mod First
pub mod Laws
pub mod Lines
pub mod Places
pub mod Steps
