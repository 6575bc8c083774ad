-- Mirrors of the code's states: what the code keeps, which nobody has to believe.
pub mod EndTables
pub mod Walking
pub mod WalkStates
