-- Mirrors of what the code has in hand: nobody has to believe them.
pub mod Outer
pub mod OnePass
