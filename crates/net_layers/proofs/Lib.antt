pub mod WaitParts
pub mod KindSums
pub mod Layered
pub mod FewWires
pub mod Fans
