pub mod Bounded
pub mod BoundInTurn
pub mod Drafted
pub mod Staying
