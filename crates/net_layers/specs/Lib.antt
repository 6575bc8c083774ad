pub mod TwoWayNets
pub mod Mirror
