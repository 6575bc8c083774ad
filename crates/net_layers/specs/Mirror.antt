-- What the code has in hand: nobody has to believe it.
pub mod Laid
