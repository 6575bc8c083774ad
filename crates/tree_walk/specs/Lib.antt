pub mod Bursts
pub mod Meetings
pub mod Edges
pub mod Passed
pub mod Mirror
