-- What the proofs of the code need of trees, and nobody has to believe.
pub mod Stored
pub mod Size
pub mod Falls
