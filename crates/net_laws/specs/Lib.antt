pub mod Charts
pub mod Implementing
pub mod RoundsNets
pub mod ForksNets
pub mod ForkChain
