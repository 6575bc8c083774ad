pub mod WaitRule
pub mod PartLists
pub mod PartsWeb
pub mod PartKinds
pub mod PartsChart
pub mod PartsLayer
pub mod NodeSteps
