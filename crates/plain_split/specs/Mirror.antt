-- What the proofs of the code need, and nobody has to believe.
pub mod OneWaitTables
pub mod RoundsGives
pub mod RoundsTables
pub mod Rows
