pub mod Keys
pub mod Cut
pub mod Layers
pub mod Mirror
