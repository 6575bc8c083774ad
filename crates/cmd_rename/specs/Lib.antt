pub mod Renaming
pub mod Symbols
pub mod Table
pub mod Mirror
