pub mod Counts
pub mod Mirror
pub mod Narrow
