-- What the proofs of the code need, and nobody has to believe.
pub mod Tables
pub mod Plan
pub mod Pieces
pub mod Main
