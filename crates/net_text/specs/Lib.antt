pub mod NetText
pub mod Told
pub mod NetFault
pub mod Mirror
