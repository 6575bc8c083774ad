-- What mirrors the states of the code.
pub mod Positions
pub mod Walkers
