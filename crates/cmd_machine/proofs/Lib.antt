pub mod Kept
pub mod Steps
pub mod Entering
pub mod Standing
pub mod Weaving
pub mod Noting
pub mod Lawfulness
pub mod Rows
