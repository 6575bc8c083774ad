pub mod Ranges
pub mod SymbolNames
pub mod Limits
pub mod Grammar
