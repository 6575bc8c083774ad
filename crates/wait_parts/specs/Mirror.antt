-- What the code keeps, beside what is meant.
pub mod Known
