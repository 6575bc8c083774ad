-- What the proofs of the code need, and nobody has to believe.
pub mod Lesser
pub mod Found
pub mod Seen
pub mod Stops
pub mod Symbols
pub mod Twins
pub mod Laid
pub mod Uneven
pub mod Homes
pub mod Overlapping
pub mod Answering
pub mod Given
