-- Mirrors of the code's states, which nobody has to believe: proofs say by them what each step of the code does.
pub mod Machine
pub mod Drafts
pub mod Reader
pub mod Reading
pub mod ReaderView
pub mod ScanView
pub mod Tables
pub mod Keys
