pub mod Lawful
pub mod Mirror
