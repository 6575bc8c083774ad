pub mod Ports
pub mod Printable
pub mod PartWords
pub mod Crossings
pub mod Stages
