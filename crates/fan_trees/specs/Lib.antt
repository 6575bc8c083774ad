pub mod FanLayers
pub mod Mirror
