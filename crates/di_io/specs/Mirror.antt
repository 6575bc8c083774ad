pub mod Printer
