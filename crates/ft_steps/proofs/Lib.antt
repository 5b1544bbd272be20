mod Stating
mod Equals
mod Concluding
mod Moves
mod Substitutes
mod Equated
