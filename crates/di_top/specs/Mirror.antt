-- Mirrors of what the code works out before it answers.
pub mod Replayed
pub mod Drives
