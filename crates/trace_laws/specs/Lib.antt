pub mod Listed
pub mod Breaks
pub mod Mirror
pub mod ListText
