pub mod TwoWay
pub mod Layers
