mod Stepping
mod Telling
mod Halting
mod Wholes
