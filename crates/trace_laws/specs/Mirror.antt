pub mod Improved
pub mod Faults
pub mod Followers
pub mod Links
pub mod Reading
