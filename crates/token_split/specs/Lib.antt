pub mod PartKind
pub mod TokenChart
pub mod TokenNet
pub mod Mirror
