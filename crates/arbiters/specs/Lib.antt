pub mod Arbiter
pub mod Mirror
