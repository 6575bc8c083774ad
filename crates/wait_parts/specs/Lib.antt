pub mod PartKind
pub mod PartsNet
pub mod Mirror
