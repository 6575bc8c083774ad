-- What the code keeps, beside what is meant.
pub mod Parts
pub mod Lists
pub mod Graphs
pub mod Rings
pub mod Weaves
pub mod Adding
pub mod Waits
