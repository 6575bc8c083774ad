pub mod Judging
pub mod Boarding
pub mod Views
pub mod Coursing
pub mod Making
pub mod Scheduled
pub mod Answering
pub mod Running
