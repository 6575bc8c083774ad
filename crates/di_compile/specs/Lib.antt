pub mod Compiling
pub mod Mirror
