pub mod Names
pub mod Pairs
pub mod Expansion
pub mod Alone
pub mod Files
pub mod Mirror
