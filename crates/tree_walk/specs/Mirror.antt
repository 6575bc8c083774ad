-- What the proofs of the walk need of it, and nobody has to believe.
pub mod Walked
pub mod Table
