pub mod Splice
pub mod Refusals
pub mod Splices
pub mod Mirror
