-- Mirrors of what the code keeps, which nobody has to believe.
pub mod GroupNodes
