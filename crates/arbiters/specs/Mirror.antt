-- What the proofs of the code need, and nobody has to believe.
pub mod Loans
