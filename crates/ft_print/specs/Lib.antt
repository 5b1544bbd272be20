pub mod Arguments
pub mod Domains
pub mod Mentions
pub mod Pieces
pub mod Refused
