-- Mirrors of the code's states and steps.
pub mod Steps
pub mod Boards
pub mod Watching
pub mod Schedules
