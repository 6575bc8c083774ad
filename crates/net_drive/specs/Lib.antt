pub mod Bits
pub mod Drawn
pub mod Changes
pub mod Mirror
