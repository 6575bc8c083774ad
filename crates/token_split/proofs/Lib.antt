pub mod TokenWeb
pub mod TokenRules
pub mod TokenSums
pub mod TokenCounts
pub mod TokenTraces
pub mod TokenExact
pub mod TokenRoutes
pub mod TokenMeet
pub mod TokenParts
pub mod TokenCharted
pub mod TokenLists
pub mod TokenStart
pub mod TokenDrawn
pub mod TokenWires
pub mod TokenKinds
pub mod TokenLaw
pub mod TokenExamples
mod TokenSteps
mod TokenRows
mod TokenNumbered
mod TokenPlaces
mod TokenTabled
mod TokenBuilt
mod TokenCommands
