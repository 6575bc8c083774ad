pub mod WeaveChart
pub mod WeaveNet
pub mod WeaveParts
pub mod Mirror
