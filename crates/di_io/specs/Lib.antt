pub mod Faults
pub mod Written
pub mod MemShelf
pub mod MemSink
pub mod Printing
pub mod Mirror
