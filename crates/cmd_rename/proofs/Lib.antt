pub mod Entries
pub mod Laws
pub mod Numbered
pub mod Numbering
pub mod Orders
pub mod SymbolNames
pub mod Trees
