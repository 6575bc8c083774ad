-- Mirrors of the code's states.
pub mod SumTrees
pub mod Plans
pub mod Refreshing
pub mod Driving
